use Rattle.sap_derive.proofs.FoundDeduced.{found-deducible}
use Rattle.sap_derive.proofs.laws.found_goals_are_deducible.Goals as goal

pub returns : goal.returns
returns c = found-deducible
