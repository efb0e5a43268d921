use Rattle.std.proofs.Common.{◌≡◌, ◌++◌, drop}
use Rattle.std.specs.List.{flat_map}
use Rattle.sap_notes.specs.NotesTold.{behind_comma}
use Rattle.sap_notes.proofs.told.push_behind.Given as goal

abbrev pub invariant-loop-name : goal.invariant-loop-name
invariant-loop-name l = l.text ++ flat_map behind_comma (drop l.name-index l.names) ≡ l.initial.text ++ flat_map behind_comma l.names
