use Rattle.std.proofs.Common.{◌≡◌, drop}
use Rattle.std.specs.List.{flat_map}
use Rattle.sap_macro.specs.Sources.{definitions}
use Rattle.sap_notes.specs.Symbols.{definition_symbols}
use Rattle.sap_notes.specs.code.Gathered.{gathered}
use Rattle.sap_notes.proofs.symbols.add_bodies.Given as goal

abbrev pub invariant-loop-d : goal.invariant-loop-d
invariant-loop-d l =
    gathered l.names (flat_map definition_symbols (definitions (drop l.d-index l.d-items))) ≡ gathered l.initial.names (flat_map definition_symbols (definitions l.d-items))
