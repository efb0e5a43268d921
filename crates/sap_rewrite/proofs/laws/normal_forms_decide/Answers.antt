use Rattle.sap_rewrite.proofs.NormalForms.{decided}
use Rattle.sap_rewrite.proofs.laws.normal_forms_decide.Goals as goal

pub returns : goal.returns
returns c = λ e t u m n h i. let d = decided e t u m n h i in (d.1, d.0)
