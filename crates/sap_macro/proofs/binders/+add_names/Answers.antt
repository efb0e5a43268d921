use Rattle.std.specs.Prelude.{is_some}
use Rattle.sap_terms.specs.NameMap.{value_at}
use Rattle.sap_macro.specs.Sources.{definitions, written}
use Rattle.sap_macro.proofs.Forms.{met_nothing, met_call, met_one, met_two}
use Rattle.sap_macro.proofs.binders.+add_names.Goals as goal

pub returns-in-Nothing : goal.returns-in-Nothing
returns-in-Nothing t c =
    met_nothing (definitions c.args.defs.now) (λ x. is_some (value_at c.args.terms.now x)) (written c.form_of-form.result.now) (written c.args.source.now)
    c.form_of-form.ensures.same c.args.own.now c.add_head.new.own c.in_ok-add_head.ensures c.in-Nothing.ensures

pub returns-in-Use : goal.returns-in-Use
returns-in-Use t c =
    met_call (definitions c.args.defs.now) (λ x. is_some (value_at c.args.terms.now x)) (written c.form_of-form.result.now) (written c.args.source.now)
    c.form_of-form.ensures.same c.args.own.now c.add_head.new.own c.in_ok-add_head.ensures c.in-Use.field-0.now c.in-Use.field-1.now c.in-Use.ensures
    c.form_of-form.ensures.formed

pub returns-in_ok-add_names-in-One : goal.returns-in_ok-add_names-in-One
returns-in_ok-add_names-in-One t c =
    met_one (definitions c.args.defs.now) (λ x. is_some (value_at c.args.terms.now x)) (written c.form_of-form.result.now) (written c.args.source.now)
    c.form_of-form.ensures.same c.args.own.now c.add_head.new.own c.in_ok-add_head.ensures (written c.in-One.p.now) c.add_names.new.own c.in-One.ensures
    c.in_ok-add_names-in-One.ensures

pub returns-in_ok-add_names-in-Two-2 : goal.returns-in_ok-add_names-in-Two-2
returns-in_ok-add_names-in-Two-2 t c =
    met_two (definitions c.args.defs.now) (λ x. is_some (value_at c.args.terms.now x)) (written c.form_of-form.result.now) (written c.args.source.now)
    c.form_of-form.ensures.same c.args.own.now c.add_head.new.own c.in_ok-add_head.ensures (written c.in-Two.p.now) (written c.in-Two.q.now)
    c.add_names-in-Two.new.own c.add_names-in-Two-2.new.own c.in-Two.ensures c.in_ok-add_names-in-Two.ensures c.in_ok-add_names-in-Two-2.ensures
