use Rattle.std.proofs.Common.{◌≡◌, ◌≤◌, ◌-◌, length}
use Rattle.sap_notes.specs.FactWords.{in_statement, is_behind_event, is_in_arrow, item_before}
use Rattle.sap_notes.specs.code.FirstNotes.{first_notes, is_run_item, said_key, seen_before, shown_key}
use Rattle.sap_notes.specs.declared.note.Kind.TheVariants.{UnshownFact, UnspokenEvent}
use Rattle.sap_notes.proofs.fact_words.first_notes.Given as goal

abbrev pub invariant-loop-k : goal.invariant-loop-k
invariant-loop-k l = record {
  statement : l.before.statement ≡ in_statement l.bytes l.tokens l.k;
  runs : l.before.runs ≡ is_run_item l.search.led.now l.bytes l.tokens (item_before l.bytes l.tokens l.k);
  event : l.before.event ≡ is_behind_event l.bytes l.tokens l.k;
  arrow : l.before.arrow ≡ is_in_arrow l.bytes l.tokens l.k;
  seen : l.seen ≡ seen_before (λ k. said_key l.search.signature.now l.bytes l.tokens k) l.initial.seen l.k;
  said : l.found.said ≡ first_notes (λ k. said_key l.search.signature.now l.bytes l.tokens k) l.initial.seen UnshownFact l.tokens l.k;
  heard : l.heard ≡ seen_before (λ k. shown_key l.search.signature.now l.search.led.now l.bytes l.tokens k) l.initial.heard l.k;
  shown : l.found.shown ≡ first_notes (λ k. shown_key l.search.signature.now l.search.led.now l.bytes l.tokens k) l.initial.heard UnspokenEvent l.tokens l.k;
  on : l.k ≤ length l.tokens;
}

abbrev pub decreases-loop-k : goal.decreases-loop-k
decreases-loop-k l = length l.tokens - l.k
