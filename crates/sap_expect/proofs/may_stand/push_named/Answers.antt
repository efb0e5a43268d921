use Rattle.sap_expect.specs.code.WantedView.{stacked}
use Rattle.sap_expect.proofs.KindRows.{all_put, next_put}
use Rattle.sap_expect.proofs.may_stand.push_named.Goals as goal

pub loop-k-init : goal.loop-k-init
loop-k-init c = λ all rest h. h

pub loop-k-preserved : goal.loop-k-preserved
loop-k-preserved c =
    next_put c.args.walk.now.levels (stacked c.args.walk.now.stack.items) c.args.rows.now c.loop-k.k _ c.args.list.now.items c.loop-k.list.items c.push_if_named.new.list.items
    c.loop-k-test.true c.loop-k.invariant c.in_ok-push_if_named.ensures

pub returns : goal.returns
returns c = all_put c.args.walk.now.levels (stacked c.args.walk.now.stack.items) c.args.rows.now c.loop-k.k c.args.list.now.items c.loop-k.list.items c.loop-k-test.false c.loop-k.invariant
