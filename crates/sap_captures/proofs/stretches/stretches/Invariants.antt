use Rattle.std.proofs.Common.{◌≡◌, ℕ, take}
use Rattle.std.specs.List.{All}
use Rattle.sap_text.specs.Spans.{IsWithin}
use Rattle.sap_stretches.specs.Stretches.{IsInBytes}
use Rattle.sap_captures.specs.code.Flagged.{flagged}
use Rattle.sap_captures.proofs.stretches.stretches.Given as goal

abbrev pub invariant-loop-k : goal.invariant-loop-k
invariant-loop-k l =
    (l.told ≡ flagged l.tokens 0 (take l.k l.flags)) × ((size : ℕ) → All (IsWithin size) l.tokens → All (IsInBytes size) l.told)
