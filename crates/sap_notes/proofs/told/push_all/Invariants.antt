use Rattle.std.proofs.Common.{◌≤◌, ◌-◌, length, take, drop}
use Rattle.std.specs.Prelude.{Contains}
use Rattle.sap_stretches.specs.Lines.{IsLineOf}
use Rattle.sap_notes.specs.declared.note.Note.{Note}
use Rattle.sap_notes.proofs.Telling.{HasNotes}
use Rattle.sap_notes.proofs.told.push_all.Given as goal

abbrev pub invariant-loop-k : goal.invariant-loop-k
invariant-loop-k l = record {
  on : l.k ≤ length l.notes;
  texts : HasNotes l.bytes l.events l.initial.text l.text (take l.k l.notes);
  line : IsLineOf l.bytes l.line;
  ahead : (n : Note) → Contains (drop l.k l.notes) n → l.line.at ≤ n.word.from;
}

abbrev pub decreases-loop-k : goal.decreases-loop-k
decreases-loop-k l = length l.notes - l.k
