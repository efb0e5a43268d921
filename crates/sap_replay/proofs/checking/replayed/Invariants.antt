use Rattle.sap_replay.proofs.Taken.{AreTaken}
use Rattle.sap_replay.proofs.checking.replayed.Given as goal

abbrev pub invariant-loop-k : goal.invariant-loop-k
invariant-loop-k l = AreTaken l.theory l.steps l.k l.state.value l.full
