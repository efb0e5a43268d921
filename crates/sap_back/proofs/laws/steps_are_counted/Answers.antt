use Rattle.sap_back.proofs.StepsInTurn.{counted_in_turn}
use Rattle.sap_back.proofs.laws.steps_are_counted.Goals as goal

pub returns : goal.returns
returns c = counted_in_turn
