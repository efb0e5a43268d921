use Rattle.std.proofs.Common.{length, refl, arith}
use Rattle.std.proofs.lemmas.Option.{slice_get_read}
use Rattle.sap_derive.proofs.Ranks.{needed-same}
use Rattle.sap_derive.proofs.Written.{written-none, listed-still, premises-there, written-next, goal-there}
use Rattle.sap_derive.proofs.write.write.Goals as goal

pub loop-k-init : goal.loop-k-init
loop-k-init c = rw c.new-lines.ensures (written-none c.args.closure.now c.args.entries.now c.args.goal c.in_ok-order.order.items)

pub write_next-requires-clause-rank : goal.write_next-requires-clause-rank
write_next-requires-clause-rank c =
    let order = c.in_ok-order.order.items in
    let needed = needed-same c.args.closure.now c.args.entries.now c.args.goal c.requires.closure.sound c.need.new.ranks order c.in_ok-order.ensures.same c.in_ok-need.ensures.needed in
    let at = slice_get_read order (length order) c.loop-k.k c.index.result.now refl (omega arith) c.index.ensures in
    (needed.needed c.index.result.now (c.loop-k.k, at)).below

pub write_next-requires-clause-given : goal.write_next-requires-clause-given
write_next-requires-clause-given c n g =
    listed-still c.args.closure.now c.args.entries.now c.args.goal c.in_ok-order.order.items c.loop-k.entries c.loop-k.lines c.loop-k.k c.loop-k.invariant n (c.requires.given n g)

pub write_next-requires-clause-premises : goal.write_next-requires-clause-premises
write_next-requires-clause-premises c n k clause e new way is =
    let order = c.in_ok-order.order.items in
    let needed = needed-same c.args.closure.now c.args.entries.now c.args.goal c.requires.closure.sound c.need.new.ranks order c.in_ok-order.ensures.same c.in_ok-need.ensures.needed in
    let at = slice_get_read order (length order) c.loop-k.k c.index.result.now refl (omega arith) c.index.ensures in
    premises-there c.args.closure.now c.args.entries.now c.args.goal order c.requires.closure.sound needed c.loop-k.entries c.loop-k.lines c.loop-k.k c.index.result.now c.in_ok-order.ensures.order at c.loop-k.invariant
    n k clause e new way is

pub loop-k-preserved : goal.loop-k-preserved
loop-k-preserved c =
    let order = c.in_ok-order.order.items in
    let needed = needed-same c.args.closure.now c.args.entries.now c.args.goal c.requires.closure.sound c.need.new.ranks order c.in_ok-order.ensures.same c.in_ok-need.ensures.needed in
    let at = slice_get_read order (length order) c.loop-k.k c.index.result.now refl (omega arith) c.index.ensures in
    written-next c.args.closure.now c.args.entries.now c.args.goal order c.requires.closure.sound needed c.loop-k.entries c.loop-k.lines c.loop-k.k c.index.result.now at c.loop-k.invariant
    c.write_next.new.items c.write_next.new.lines c.in_ok-write_next.ensures.ok

pub returns-clause-goal : goal.returns-clause-goal
returns-clause-goal c n e =
    let order = c.in_ok-order.order.items in
    let needed = needed-same c.args.closure.now c.args.entries.now c.args.goal c.requires.closure.sound c.need.new.ranks order c.in_ok-order.ensures.same c.in_ok-need.ensures.needed in
    goal-there c.args.closure.now c.args.entries.now c.args.goal order c.requires.closure.sound needed c.loop-k.entries c.loop-k.lines c.loop-k.k (omega arith) c.loop-k.invariant n e
