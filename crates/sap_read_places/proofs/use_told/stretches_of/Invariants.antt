use Rattle.std.proofs.Common.{◌≡◌, ◌≤◌, ◌-◌, ℕ, length}
use Rattle.std.specs.List.{All}
use Rattle.sap_text.specs.Spans.{IsWithin}
use Rattle.sap_stretches.specs.Stretches.{IsInBytes}
use Rattle.sap_read_places.proofs.UseTold.{front_of}
use Rattle.sap_read_places.proofs.use_told.stretches_of.Given as goal

abbrev pub invariant-loop-k : goal.invariant-loop-k
invariant-loop-k l = record {
  on : l.k ≤ length l.words;
  are : l.stretches ≡ front_of l.tokens l.words l.k;
  inside : (size : ℕ) → All (IsWithin size) l.tokens → All (IsInBytes size) l.stretches;
}

abbrev pub decreases-loop-k : goal.decreases-loop-k
decreases-loop-k l = length l.words - l.k
