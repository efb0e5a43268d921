use Rattle.std.proofs.Common.{subst}
use Rattle.sap_share.specs.code.Found.{KeepsOrder}
use Rattle.sap_share.proofs.Ordered.{put_in_order}
use Rattle.sap_share.proofs.env.Env.push.Goals as goal

pub invariant_of-self-in-Ok : goal.invariant_of-self-in-Ok
invariant_of-self-in-Ok c =
    let old = c.self.inside in
    let next = subst (λ k. KeepsOrder old.order c.follow.new.order k c.args.bound.var.name) c.len.ensures c.follow.ensures in
    put_in_order c.push.result c.index_many.new.index old.order c.follow.new.order old.bound c.push.new.self c.args.bound c.push.ensures.ok c.push.ensures.err c.index_many.ensures c.self.invariant.1 next
