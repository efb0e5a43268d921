use Rattle.std.proofs.Common.{◌∙◌, map}
use Rattle.sap_judge.proofs.Marks.{more_guards, more_seen_by}
use Rattle.sap_judge.specs.code.Laid.{action, place}
use Rattle.sap_search.specs.View.{guard}
use Rattle.sap_judge.proofs.laying.lay_guards.Goals as goal

pub loop-k-preserved : goal.loop-k-preserved
loop-k-preserved c =
    let p = place c.args.spot.now in
    let l = c.loop-k in
    record {
      guards = more_guards action c.args.trace.now p l.seen c.lay_guard.new.seen (map guard l.out) (map guard c.lay_guard.new.out) c.args.actions.now l.k c.at.result.now c.at.ensures c.in_ok-lay_guard.ensures.guards c.in_ok-lay_guard.ensures.seen ∙ l.invariant.guards;
      seen = more_seen_by action p l.seen c.lay_guard.new.seen c.args.actions.now l.k c.at.result.now c.at.ensures c.in_ok-lay_guard.ensures.seen ∙ l.invariant.seen;
    }
