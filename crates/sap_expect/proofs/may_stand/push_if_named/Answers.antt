use Rattle.std.proofs.Common.{refl}
use Rattle.sap_expect.specs.code.WantedView.{stacked}
use Rattle.sap_expect.proofs.KindRows.{none_put, one_put}
use Rattle.sap_expect.proofs.may_stand.push_if_named.Goals as goal

pub returns-in_ok-push : goal.returns-in_ok-push
returns-in_ok-push c =
    let h = rw c.if-branch.true at c.in_ok-is_named.ensures in
    one_put c.args.walk.now.levels (stacked c.args.walk.now.stack.items) c.args.row.now c.args.list.now.items c.push.new.self.items h c.in_ok-push.ensures.items

pub returns-else-branch : goal.returns-else-branch
returns-else-branch c =
    let h = rw c.if-branch.false at c.in_ok-is_named.ensures in
    none_put c.args.walk.now.levels (stacked c.args.walk.now.stack.items) c.args.row.now c.args.list.now.items c.args.list.now.items h refl
