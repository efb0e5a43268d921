use Rattle.std.proofs.Common.{◌≡◌, ℕ, List, length, take}
use Rattle.sap_origin.specs.Trails.{IsTrail}
use Rattle.sap_captures.specs.code.Flags.{IsGrown}
use Rattle.sap_captures.specs.code.Marks.{HasIndexIn, definitions_on, main_on}
use Rattle.sap_captures.proofs.desk.note_nodes.Given as goal

abbrev pub invariant-loop-k : goal.invariant-loop-k
invariant-loop-k l =
    (length l.flags ≡ length l.initial.flags)
    × ((path : List ℕ) → IsTrail (definitions_on l.desk) (main_on l.desk).process (main_on l.desk).behind path l.trail
    → IsGrown (λ i. HasIndexIn l.desk l.kind path (take l.k l.nodes) i) l.initial.flags l.flags)
