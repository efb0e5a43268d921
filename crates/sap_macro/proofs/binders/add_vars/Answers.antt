use Rattle.std.specs.Prelude.{is_some}
use Rattle.sap_terms.specs.NameMap.{value_at}
use Rattle.sap_macro.proofs.Bound.{names_next}
use Rattle.sap_macro.proofs.binders.add_vars.Goals as goal

pub loop-k-preserved : goal.loop-k-preserved
loop-k-preserved c =
    names_next c.loop-k.own c.add_name.new.own c.args.own.now (λ x. is_some (value_at c.args.terms.now x)) c.args.vars.now c.loop-k.k c.at.result.now
    c.at.ensures c.loop-k.invariant c.in_ok-add_name.ensures
