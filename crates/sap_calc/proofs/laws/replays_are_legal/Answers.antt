use Rattle.sap_calc.proofs.Replays.{replayed}
use Rattle.sap_calc.proofs.laws.replays_are_legal.Goals as goal

pub returns : goal.returns
returns c = λ p r z lines tr known first done. replayed p r known first done
