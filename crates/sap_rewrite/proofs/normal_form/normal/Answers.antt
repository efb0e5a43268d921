use Rattle.std.proofs.lemmas.Result.{IfOk-weaker}
use Rattle.sap_terms.specs.View.{tree}
use Rattle.sap_terms.specs.Equations.{equations}
use Rattle.sap_rewrite.proofs.NormalForms.{form_from_nf}
use Rattle.sap_rewrite.proofs.normal_form.normal.Goals as goal

pub returns : goal.returns
returns c =
    IfOk-weaker _ _ _ (λ r h. form_from_nf (equations c.args.sig.now) (tree c.args.t.now) (tree r) h) c.normal_term.ensures
