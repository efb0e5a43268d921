use Rattle.std.proofs.Common.{◌≤◌, ◌<◌, ◌-◌, ℕ, length}
use Rattle.sap_where.specs.Parameters.{CanBeParameter, IsParameter}
use Rattle.sap_where.proofs.parameters.next.Given as goal

abbrev pub invariant-loop-n : goal.invariant-loop-n
invariant-loop-n l = record {
  can : CanBeParameter l.bytes l.tokens l.i l.n;
  on : l.from ≤ l.n;
  none : (m : ℕ) → l.from ≤ m → m < l.n → IsParameter l.bytes l.tokens l.name l.i m → ⊥;
}

abbrev pub decreases-loop-n : goal.decreases-loop-n
decreases-loop-n l = length l.tokens - l.n
