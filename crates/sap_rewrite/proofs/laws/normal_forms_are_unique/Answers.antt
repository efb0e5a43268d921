use Rattle.std.proofs.Common.{sym, ◌∙◌}
use Rattle.sap_rewrite.proofs.NormalForms.{one_normal_form}
use Rattle.sap_rewrite.proofs.laws.normal_forms_are_unique.Goals as goal

pub returns : goal.returns
returns c = λ e t m n h i. one_normal_form e t m h ∙ sym (one_normal_form e t n i)
