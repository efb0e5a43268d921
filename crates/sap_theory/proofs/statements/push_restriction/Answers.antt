use Rattle.std.proofs.Common.{◌≡◌, ◌++◌, ◌∙◌}
use Rattle.std.specs.Prelude.{codes}
use Rattle.sap_formula.specs.Form.{RestrictionForm}
use Rattle.sap_formula.specs.View.{form}
use Rattle.sap_theory.specs.StatementText.{quoted}
use Rattle.sap_theory.proofs.Lines.{restriction-behind}
use Rattle.sap_theory.proofs.statements.push_restriction.Goals as goal

pub returns : goal.returns
returns c =
    let r : RestrictionForm = record { name = c.restriction.inside.name; formula = form c.restriction.inside.formula } in
    let text : c.push_quoted.new.text ≡ (((c.args.text.now ++ codes "\nrestriction ") ++ r.name) ++ codes ":\n") ++ quoted r.formula =
    cc (c.in_ok-push_quoted.ensures, c.in_ok-push_bytes-3.ensures.ok, c.in_ok-push_bytes-2.ensures.ok, c.in_ok-push_bytes.ensures.ok, c.as_bytes.ensures) in
    text ∙ restriction-behind c.args.text.now r c.args.restriction.now c.restriction.view_is
