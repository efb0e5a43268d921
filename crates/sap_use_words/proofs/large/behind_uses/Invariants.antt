use Rattle.std.proofs.Common.{◌≡◌, ◌≤◌, length, take}
use Rattle.sap_terms.specs.Choice.{Choice}
use Rattle.sap_macro.specs.Sources.{definitions}
use Rattle.sap_origin.specs.Definitions.{located_definitions}
use Rattle.sap_uses.specs.Sizes.{HaveSizes}
use Rattle.sap_use_words.specs.code.Walk.{IsReached, found_by, steps_by, steps_there}
use Rattle.sap_use_words.proofs.large.behind_uses.Given as goal

abbrev pub invariant-loop-r : goal.invariant-loop-r
invariant-loop-r l = record {
  reached : (r : Choice) → HaveSizes r l.sizes
      → IsReached (located_definitions l.defs l.behind) (found_by (located_definitions l.defs l.behind) l.fn.uses.items r l.e) l.r l.uses.items;
  fewer : steps_there (definitions l.defs) l.r ≤ steps_by (definitions l.defs) l.e;
  front : take (length l.fn.uses.items) l.uses.items ≡ l.fn.uses.items;
}

abbrev pub decreases-loop-r : goal.decreases-loop-r
decreases-loop-r l = steps_there (definitions l.defs) l.r
