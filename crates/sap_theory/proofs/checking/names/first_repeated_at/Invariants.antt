use Rattle.std.proofs.Common.{◌≤◌, length}
use Rattle.sap_theory.specs.code.Named.{AreSeen}
use Rattle.sap_theory.proofs.checking.names.first_repeated_at.Given as goal

abbrev pub invariant-loop-k : goal.invariant-loop-k
invariant-loop-k l = (l.k ≤ length l.names) × AreSeen l.names l.k l.behind l.found

abbrev pub decreases-loop-k : goal.decreases-loop-k
decreases-loop-k l = l.k
