use Rattle.std.proofs.Common.{◌≤◌, ◌<◌, ◌-◌, ℕ, length}
use Rattle.sap_where.specs.Where.{BeginsAt}
use Rattle.sap_where.proofs.find.next.Given as goal

abbrev pub invariant-loop-k : goal.invariant-loop-k
invariant-loop-k l = record {
  on : l.from ≤ l.k;
  none : (i : ℕ) → l.from ≤ i → i < l.k → BeginsAt l.bytes l.tokens l.beginning l.name i → ⊥;
}

abbrev pub decreases-loop-k : goal.decreases-loop-k
decreases-loop-k l = length l.tokens - l.k
