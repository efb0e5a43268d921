use Rattle.std.proofs.Common.{◌≤◌, length, drop}
use Rattle.sap_uses.proofs.Counted.{AreFrom}
use Rattle.sap_uses.proofs.counts.first_twice.Given as goal

abbrev pub invariant-loop-k : goal.invariant-loop-k
invariant-loop-k l = (l.k ≤ length l.names) × AreFrom (drop l.k l.names) l.later l.found

abbrev pub decreases-loop-k : goal.decreases-loop-k
decreases-loop-k l = l.k
