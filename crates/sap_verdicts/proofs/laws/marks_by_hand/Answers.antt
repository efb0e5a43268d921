use Rattle.std.proofs.Common.{refl}
use Rattle.sap_verdicts.proofs.laws.marks_by_hand.Goals as goal

pub returns : goal.returns
returns c = refl
