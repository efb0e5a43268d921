use Rattle.sap_rewrite.specs.code.Reduce.{nf}
use Rattle.sap_rewrite.proofs.NormalForms.{has_normal_form}
use Rattle.sap_rewrite.proofs.laws.each_term_has_a_normal_form.Goals as goal

pub returns : goal.returns
returns c = λ e t. (nf e t, has_normal_form e t)
