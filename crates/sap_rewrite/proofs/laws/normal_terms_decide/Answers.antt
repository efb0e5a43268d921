use Rattle.std.proofs.Common.{sym, ◌∙◌}
use Rattle.sap_rewrite.proofs.NormalForms.{nf-fixed}
use Rattle.sap_rewrite.proofs.Patterns.{equal_from_same}
use Rattle.sap_rewrite.proofs.Respects.{nf-equal}
use Rattle.sap_rewrite.proofs.laws.normal_terms_decide.Goals as goal

pub returns : goal.returns
returns c = λ e t u m n. (λ h. sym (nf-fixed e t m) ∙ nf-equal e h ∙ nf-fixed e u n, λ h. equal_from_same e t u h)
