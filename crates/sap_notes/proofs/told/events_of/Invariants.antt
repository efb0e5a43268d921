use Rattle.std.proofs.Common.{◌≡◌, ◌++◌, drop}
use Rattle.sap_notes.specs.NotesTold.{event_names}
use Rattle.sap_notes.proofs.told.events_of.Given as goal

abbrev pub invariant-loop-note : goal.invariant-loop-note
invariant-loop-note l = l.names ++ event_names l.bytes (drop l.note-index l.notes) ≡ event_names l.bytes l.notes
