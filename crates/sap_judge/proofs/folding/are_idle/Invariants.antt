use Rattle.std.proofs.Common.{◌≡◌, drop, map}
use Rattle.sap_judge.specs.code.Folded.{are_idle}
use Rattle.sap_search.specs.View.{guard}
use Rattle.sap_judge.proofs.folding.are_idle.Given as goal

abbrev pub invariant-loop-k : goal.invariant-loop-k
invariant-loop-k l = are_idle (map guard l.guards) ≡ are_idle (map guard (drop l.k l.guards))
