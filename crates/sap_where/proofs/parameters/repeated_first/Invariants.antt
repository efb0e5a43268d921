use Rattle.std.proofs.Common.{◌<◌, ◌-◌, ℕ, length}
use Rattle.sap_where.specs.Parameters.{IsParameter}
use Rattle.sap_where.specs.Where.{HoldsOnce}
use Rattle.sap_where.proofs.parameters.repeated_first.Given as goal

abbrev pub invariant-loop-i : goal.invariant-loop-i
invariant-loop-i l = (j : ℕ) → j < l.i → HoldsOnce (IsParameter l.bytes l.tokens l.name j)

abbrev pub decreases-loop-i : goal.decreases-loop-i
decreases-loop-i l = length l.tokens - l.i
