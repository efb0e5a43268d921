use Rattle.sap_back.proofs.LinesTried.{sending, waiting}
use Rattle.sap_back.proofs.laws.counted_runs_by_hand.Goals as goal

pub returns : goal.returns
returns c = record { waiting = waiting; sending = sending }
