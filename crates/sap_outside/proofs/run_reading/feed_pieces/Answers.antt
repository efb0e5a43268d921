use Rattle.std.proofs.Common.{refl, ◌∙◌, arith}
use Rattle.sap_outside.proofs.PutPieces.{on_err}
use Rattle.sap_outside.proofs.RunFed.{pieces_none, pieces_more, pieces_end, pieces_many, pieces_asked, pieces_came}
use Rattle.sap_outside.proofs.run_reading.feed_pieces.Goals as goal

pub loop-tally-init : goal.loop-tally-init
loop-tally-init g c = record { fed = pieces_none _ _ _ _ _ c.new-tally.ensures; opened = refl; same = refl; later = λ n. omega arith }

pub returns-in_err-next-clause-given_up : goal.returns-in_err-next-clause-given_up
returns-in_err-next-clause-given_up g c =
    let i = c.loop-tally.invariant in
    on_err c.from_residual.result (pieces_asked _ _ _ _ _ _ _ _ i.fed _ _ (pieces_came _ _ _ _ _ _ _ _ i.fed (omega (arith, c.loop-tally-test.true))) c.feed_piece.ensures.asked)

pub returns-then-next-tally-clause-fed : goal.returns-then-next-tally-clause-fed
returns-then-next-tally-clause-fed g c =
    let i = c.loop-tally.invariant in
    let e = c.in_ok-next.ensures in
    pieces_end _ _ _ _ _ _ _ _ i.fed _ _ _ _ _ e.fed e.asked (omega (arith, c.loop-tally-test.true)) c.if-next-tally.true

pub loop-tally-preserved : goal.loop-tally-preserved
loop-tally-preserved g c =
    let i = c.loop-tally.invariant in
    let e = c.in_ok-next.ensures in
    record {
      fed = pieces_more _ _ _ _ _ _ _ _ i.fed _ _ _ _ _ e.fed e.asked (omega (arith, c.loop-tally-test.true)) c.if-next-tally.false;
      opened = e.opened ∙ i.opened;
      same = e.same ∙ i.same;
      later = λ n. let below = i.later n in let above = e.later n in omega (arith, below, above);
    }

pub returns-clause-fed : goal.returns-clause-fed
returns-clause-fed g c = pieces_many _ _ _ _ _ _ _ _ c.loop-tally.invariant.fed (omega (arith, c.loop-tally-test.false))
