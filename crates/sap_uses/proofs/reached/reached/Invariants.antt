use Rattle.sap_macro.specs.Sources.{definitions, written}
use Rattle.sap_uses.proofs.Marked.{AreMarked}
use Rattle.sap_uses.proofs.reached.reached.Given as goal

abbrev pub invariant-loop-k : goal.invariant-loop-k
invariant-loop-k l = AreMarked (definitions l.defs) (written l.main) l.k l.names

abbrev pub decreases-loop-k : goal.decreases-loop-k
decreases-loop-k l = l.k
