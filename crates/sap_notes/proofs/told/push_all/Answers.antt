use Rattle.std.proofs.Common.{arith}
use Rattle.sap_notes.proofs.Telling.{ahead_next, all_notes, first_inside, item_ahead, item_here, no_notes, notes_more}
use Rattle.sap_notes.proofs.told.push_all.Goals as goal

pub loop-k-init : goal.loop-k-init
loop-k-init c =
    record { on = omega arith; texts = no_notes c.args.bytes.now c.args.events.now c.args.text.now; line = c.line_of-line.ensures.is; ahead = λ n m. let e = c.line_of-line.ensures.at in omega (arith, e) }

pub line_behind-line-requires-clause-behind : goal.line_behind-line-requires-clause-behind
line_behind-line-requires-clause-behind c = c.loop-k.invariant.ahead _ (item_ahead c.args.notes.now c.loop-k.k _ c.loop-k-test.true)

pub line_behind-line-requires-clause-inside : goal.line_behind-line-requires-clause-inside
line_behind-line-requires-clause-inside c =
    first_inside c.args.bytes.now _ (c.requires.inside _ (item_here c.args.notes.now c.loop-k.k _ c.loop-k-test.true))

pub push_note-requires-clause-inside : goal.push_note-requires-clause-inside
push_note-requires-clause-inside c = c.requires.inside _ (item_here c.args.notes.now c.loop-k.k _ c.loop-k-test.true)

pub loop-k-preserved : goal.loop-k-preserved
loop-k-preserved c =
    let lt = c.loop-k-test.true in
    record {
      on = omega (arith, lt);
      texts = notes_more c.args.bytes.now c.args.events.now c.args.text.now c.loop-k.text c.push_note.new.text c.args.notes.now c.loop-k.k _ lt c.loop-k.invariant.texts c.in_ok-push_note.ensures;
      line = c.line_behind-line.ensures.is;
      ahead = λ n m. ahead_next c.args.notes.now c.loop-k.k _ c.line_behind-line.result n c.line_behind-line.ensures.at c.requires.order lt m;
    }

pub returns : goal.returns
returns c = all_notes c.args.bytes.now c.args.events.now c.args.text.now c.loop-k.text c.args.notes.now c.loop-k.k c.loop-k-test.false c.loop-k.invariant.texts
