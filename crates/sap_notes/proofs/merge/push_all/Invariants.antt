use Rattle.std.proofs.Common.{◌≡◌, ◌++◌, drop}
use Rattle.sap_notes.proofs.merge.push_all.Given as goal

abbrev pub invariant-loop-note : goal.invariant-loop-note
invariant-loop-note l = l.all ++ drop l.note-index l.notes ≡ l.initial.all ++ l.notes
