use Rattle.std.proofs.Common.{arith}
use Rattle.sap_outside.proofs.PutPieces.{put_nothing, put_more, put_whole, put_part, on_err}
use Rattle.sap_outside.proofs.pieces.put_pieces.Goals as goal

pub loop-at-init : goal.loop-at-init
loop-at-init g c = record { put = put_nothing _ _ _; faults = omega arith; wants = omega arith }

pub loop-at-preserved : goal.loop-at-preserved
loop-at-preserved g c =
    let i = c.loop-at.invariant in
    let e = c.in_ok-at.ensures in
    record {
      put = put_more _ _ _ _ _ _ i.put _ _ _ (omega (arith, c.loop-at-test.true)) e.end e.whole e.asked;
      faults = omega (arith, i.faults, e.later);
      wants = omega (arith, i.wants, e.later_wants);
    }

pub returns-in_err-at-clause-part : goal.returns-in_err-at-clause-part
returns-in_err-at-clause-part g c =
    let i = c.loop-at.invariant in
    let e = c.in_err-at.ensures in
    on_err c.from_residual.result (put_part _ _ _ _ _ e.part.0 i.put (omega (arith, c.loop-at-test.true)) e.part.1 e.part.2 e.asked)

pub returns-clause-whole : goal.returns-clause-whole
returns-clause-whole g c = put_whole _ _ _ _ _ _ c.loop-at.invariant.put (omega (arith, c.loop-at-test.false))
