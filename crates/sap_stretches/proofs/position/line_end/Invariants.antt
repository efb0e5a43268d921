use Rattle.std.proofs.Common.{◌≤◌, ◌<◌, ℕ, length, ◌-◌}
use Rattle.sap_stretches.specs.Positions.{IsFeed}
use Rattle.sap_stretches.proofs.position.line_end.Given as goal

abbrev pub invariant-loop-end : goal.invariant-loop-end
invariant-loop-end l = record {
  within : l.at ≤ l.end;
  inside : l.end ≤ length l.bytes;
  no_feed : (k : ℕ) → l.at ≤ k → k < l.end → IsFeed l.bytes k → ⊥;
}

abbrev pub decreases-loop-end : goal.decreases-loop-end
decreases-loop-end l = length l.bytes - l.end
