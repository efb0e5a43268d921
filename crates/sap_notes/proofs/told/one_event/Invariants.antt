use Rattle.std.proofs.Common.{◌≡◌, ◌++◌, drop}
use Rattle.sap_notes.specs.NotesTold.{with_one_event}
use Rattle.sap_notes.specs.code.Once.{told_behind}
use Rattle.sap_notes.proofs.told.one_event.Given as goal

abbrev pub invariant-loop-note : goal.invariant-loop-note
invariant-loop-note l = l.told ++ told_behind l.met (drop l.note-index l.notes) ≡ with_one_event l.notes
