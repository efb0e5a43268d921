use Rattle.std.proofs.Common.{◌∙◌}
use Rattle.sap_judge.proofs.Marks.{more_marks, more_seen}
use Rattle.sap_judge.specs.code.Laid.{place}
use Rattle.sap_terms.specs.View.{tree}
use Rattle.sap_judge.proofs.laying.+lay.Goals as goal

pub lay_all-loop-k-preserved : goal.lay_all-loop-k-preserved
lay_all-loop-k-preserved t c =
    let p = place c.args.spot.now in
    let l = c.loop-k in
    record {
      marks = more_marks p l.seen c.lay.new.seen l.marks c.lay.new.marks c.args.ts.now l.k (tree c.at.result.now) c.at.ensures.got c.in_ok-lay.ensures.marks c.in_ok-lay.ensures.seen ∙ l.invariant.marks;
      seen = more_seen p l.seen c.lay.new.seen c.args.ts.now l.k (tree c.at.result.now) c.at.ensures.got c.in_ok-lay.ensures.seen ∙ l.invariant.seen;
    }
