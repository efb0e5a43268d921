use Rattle.sap_derive.proofs.Waits.{waits-more, waits-no_more}
use Rattle.sap_derive.proofs.closure.reach.Goals as goal

pub loop-alloc-preserved : goal.loop-alloc-preserved
loop-alloc-preserved c =
    let i = c.loop-alloc.invariant in
    let ws = c.loop-alloc.waiting.items in
    rw c.in_ok-push.ensures.items record {
      kept = λ n k w a. waits-more ws c.new.result n k w (i.kept n k w a);
      only = λ n k w a. i.only n k w (waits-no_more ws c.new.result c.new.ensures.items n k w a);
    }

pub returns-in_err-push-clause-kept : goal.returns-in_err-push-clause-kept
returns-in_err-push-clause-kept c = rw c.in_err-push.ensures.items c.loop-alloc.invariant.kept

pub returns-in_err-push-clause-only : goal.returns-in_err-push-clause-only
returns-in_err-push-clause-only c = rw c.in_err-push.ensures.items c.loop-alloc.invariant.only
