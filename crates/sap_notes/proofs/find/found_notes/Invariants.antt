use Rattle.std.proofs.Common.{◌≡◌, ◌≤◌, ◌-◌, length}
use Rattle.std.specs.Prelude.{codes}
use Rattle.sap_where.specs.FileDeclarations.{in_item, is_next}
use Rattle.sap_notes.specs.NotedWords.{is_behind_let}
use Rattle.sap_notes.specs.code.Walk.{declared_names, notes_before}
use Rattle.sap_notes.proofs.find.found_notes.Given as goal

abbrev pub invariant-loop-k : goal.invariant-loop-k
invariant-loop-k l = record {
  functions : l.before.functions ≡ in_item l.bytes l.tokens (codes "functions") l.k;
  next : l.before.next ≡ is_next l.bytes l.tokens l.k;
  defines : l.before.defines ≡ is_behind_let l.bytes l.tokens l.k;
  declared : l.declared ≡ declared_names l.bytes l.tokens l.k;
  notes : l.notes ≡ notes_before l.known.signature.now l.known.symbols.now l.known.led.now l.bytes l.tokens l.k;
  on : l.k ≤ length l.tokens;
}

abbrev pub decreases-loop-k : goal.decreases-loop-k
decreases-loop-k l = length l.tokens - l.k
