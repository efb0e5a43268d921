use Rattle.std.proofs.Common.{◌≡◌, ◌≤◌, ◌+◌, ◌-◌, ℕ, List}
use Rattle.sap_outside.specs.RunPieces.{most_run_bytes}
use Rattle.sap_outside.specs.code.RunFed.{ArePiecesFed}
use Rattle.sap_outside.proofs.run_reading.feed_pieces.Given as goal

abbrev pub invariant-loop-tally : goal.invariant-loop-tally
invariant-loop-tally g l = record {
  fed : ArePiecesFed (g.S.Shelf.seen l.initial.shelf).rest (g.S.Shelf.seen l.shelf).rest l.initial.reader l.reader l.tally.given l.tally.first (g.S.Shelf.seen l.initial.shelf).asked (g.S.Shelf.seen l.shelf).asked;
  opened : (g.S.Shelf.seen l.shelf).opened ≡ (g.S.Shelf.seen l.initial.shelf).opened;
  same : (g.S.Shelf.seen l.shelf).holds ≡ (g.S.Shelf.seen l.initial.shelf).holds;
  later : (n : List ℕ) → (g.S.Shelf.seen l.initial.shelf).faults n ≤ (g.S.Shelf.seen l.shelf).faults n;
}

abbrev pub decreases-loop-tally : goal.decreases-loop-tally
decreases-loop-tally g l = most_run_bytes + 1 - l.tally.given
