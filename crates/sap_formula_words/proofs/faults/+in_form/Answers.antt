use Rattle.std.proofs.Common.{sym, ap, ◌∙◌}
use Rattle.std.specs.Option.{option_copied}
use Rattle.sap_formula.specs.Parts.{form_parts}
use Rattle.sap_formula.specs.View.{form}
use Rattle.sap_formula_words.specs.code.Faulty.{is_faulty, first_of_all, scope_of}
use Rattle.sap_formula_words.proofs.Near.{below}
use Rattle.sap_formula_words.proofs.faults.+in_form.Goals as goal

pub in_body-returns : goal.in_body-returns
in_body-returns t c =
    let a = c.args.aim.now in
    c.in_form.ensures ∙ ap (λ o. first_of_all (is_faulty a.sig.now a.which a.name.now) (form_parts (scope_of o) (form c.args.f.now)) c.args.before) c.innermost.ensures
    ∙ sym (below a.sig.now a.which a.name.now c.args.bs.now (option_copied c.args.inner) (form c.args.f.now) c.args.before)
