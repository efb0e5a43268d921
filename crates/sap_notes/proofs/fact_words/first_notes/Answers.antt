use Rattle.std.proofs.Common.{arith}
use Rattle.sap_notes.specs.code.FirstNotes.{said_key, shown_key}
use Rattle.sap_notes.specs.declared.note.Kind.TheVariants.{UnshownFact, UnspokenEvent}
use Rattle.sap_notes.proofs.Steps.{next_first, next_seen}
use Rattle.sap_notes.proofs.fact_words.first_notes.Goals as goal

pub loop-k-preserved : goal.loop-k-preserved
loop-k-preserved c =
    let lt = c.loop-k-test.true in
    record {
      statement = c.in_ok-before.ensures.statement;
      runs = c.in_ok-before.ensures.runs;
      event = c.in_ok-before.ensures.event;
      arrow = c.in_ok-before.ensures.arrow;
      seen = next_seen (λ k. said_key c.args.search.now.signature.now c.args.bytes.now c.args.tokens.now k) _ UnshownFact c.args.tokens.now c.loop-k.k _ c.in_ok-said.ensures c.loop-k.seen c.loop-k.invariant.seen _ c.in_ok-push_new.ensures.seen;
      said = next_first (λ k. said_key c.args.search.now.signature.now c.args.bytes.now c.args.tokens.now k) _ UnshownFact c.args.tokens.now c.loop-k.k _ c.in_ok-said.ensures c.loop-k.seen c.loop-k.invariant.seen _ c.stretch_at-word.ensures.is c.loop-k.found.said _ c.loop-k.invariant.said c.in_ok-push_new.ensures.notes;
      heard = next_seen (λ k. shown_key c.args.search.now.signature.now c.args.search.now.led.now c.args.bytes.now c.args.tokens.now k) _ UnspokenEvent c.args.tokens.now c.loop-k.k _ c.in_ok-event.ensures c.loop-k.heard c.loop-k.invariant.heard _ c.in_ok-push_new-2.ensures.seen;
      shown = next_first (λ k. shown_key c.args.search.now.signature.now c.args.search.now.led.now c.args.bytes.now c.args.tokens.now k) _ UnspokenEvent c.args.tokens.now c.loop-k.k _ c.in_ok-event.ensures c.loop-k.heard c.loop-k.invariant.heard _ c.stretch_at-word.ensures.is c.loop-k.found.shown _ c.loop-k.invariant.shown c.in_ok-push_new-2.ensures.notes;
      on = omega (arith, lt);
    }
