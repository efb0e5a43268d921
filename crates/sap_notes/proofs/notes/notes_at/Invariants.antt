use Rattle.std.proofs.Common.{◌≡◌, ◌++◌, drop, map}
use Rattle.sap_notes.specs.code.Ranked.{note_of}
use Rattle.sap_notes.proofs.notes.notes_at.Given as goal

abbrev pub invariant-loop-word : goal.invariant-loop-word
invariant-loop-word l = l.notes ++ map (note_of l.kind) (drop l.word-index l.stretches) ≡ map (note_of l.kind) l.stretches
