use Rattle.std.proofs.Common.{sym, subst, ◌∙◌}
use Rattle.sap_terms.specs.Equations.{equations}
use Rattle.sap_terms.specs.Normal.{IsNormalForm}
use Rattle.sap_terms.specs.View.{tree}
use Rattle.sap_terms.specs.declared.term.Term.{Term}
use Rattle.sap_teller.proofs.Found.{if_ok}
use Rattle.sap_teller.proofs.Plain.{plain_form}
use Rattle.sap_teller.proofs.finding.evaluated.Goals as goal

pub returns-else-has_destructor : goal.returns-else-has_destructor
returns-else-has_destructor c =
    let g = c.args.sig.now in
    let t = tree c.args.m.now in
    let none = sym c.has_destructor.ensures.test ∙ c.if-has_destructor.false in
    if_ok c.copy.result _ (λ r. IsNormalForm (equations g) t (tree r))
    (λ r same. subst (λ (u : Term). IsNormalForm (equations g) t (tree u)) (sym same) (plain_form c.leaves_are_normal.ensures c.destructors_head_left_sides.ensures g t none)) c.copy.ensures
