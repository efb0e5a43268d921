use Rattle.std.proofs.Common.{◌≤◌, ◌<◌, ℕ}
use Rattle.sap_stretches.specs.Positions.{IsFeed}
use Rattle.sap_stretches.proofs.position.line_begin.Given as goal

abbrev pub invariant-loop-begin : goal.invariant-loop-begin
invariant-loop-begin l = record {
  within : l.begin ≤ l.at;
  no_feed : (k : ℕ) → l.begin ≤ k → k < l.at → IsFeed l.bytes k → ⊥;
}

abbrev pub decreases-loop-begin : goal.decreases-loop-begin
decreases-loop-begin l = l.begin
