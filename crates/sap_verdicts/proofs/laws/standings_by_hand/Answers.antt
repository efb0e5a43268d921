use Rattle.std.proofs.Common.{refl}
use Rattle.sap_verdicts.proofs.laws.standings_by_hand.Goals as goal

pub returns : goal.returns
returns c = (refl, (refl, (refl, (refl, (refl, (refl, (refl, tt)))))))
