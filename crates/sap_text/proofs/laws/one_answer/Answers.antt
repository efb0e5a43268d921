use Rattle.std.proofs.Common.{refl}
use Rattle.sap_text.proofs.Unique.{one_answer}
use Rattle.sap_text.proofs.laws.one_answer.Goals as goal

pub returns : goal.returns
returns c = λ most z o u r s. one_answer r s refl
