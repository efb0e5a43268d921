use Rattle.std.proofs.Common.{◌≡◌, length, take}
use Rattle.sap_macro.specs.Sources.{definitions}
use Rattle.sap_origin.specs.Definitions.{located_definitions}
use Rattle.sap_use_words.specs.code.Walk.{steps_from}
use Rattle.sap_use_words.proofs.Walking.{IsOn}
use Rattle.sap_use_words.proofs.met.met_at.Given as goal

abbrev pub invariant-loop-word : goal.invariant-loop-word
invariant-loop-word l = record {
  on : IsOn (located_definitions l.defs l.behind) (definitions l.defs) l.here.behind l.fn.uses.items l.here.source.now l.at l.uses.items;
  front : take (length l.fn.uses.items) l.uses.items ≡ l.fn.uses.items;
}

abbrev pub decreases-loop-word : goal.decreases-loop-word
decreases-loop-word l = steps_from (definitions l.defs) l.at
