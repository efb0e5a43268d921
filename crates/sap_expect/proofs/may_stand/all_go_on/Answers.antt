use Rattle.std.specs.Prelude.{map}
use Rattle.sap_expect.specs.code.Going.{CanGo, witness_of}
use Rattle.sap_expect.specs.code.WantedView.{stacked}
use Rattle.sap_expect.proofs.KindRows.{all_are, all_left, that_is, that_not}
use Rattle.sap_expect.proofs.may_stand.all_go_on.Goals as goal

pub loop-k-init : goal.loop-k-init
loop-k-init c = all_left (CanGo c.args.walk.now.levels (stacked c.args.walk.now.stack.items)) (map witness_of c.args.words.now)

pub returns-then-not-branch : goal.returns-then-not-branch
returns-then-not-branch c =
    let h = rw c.if-not-branch.true at c.in_ok-goes_on.ensures in
    that_not witness_of (CanGo c.args.walk.now.levels (stacked c.args.walk.now.stack.items)) c.args.words.now c.loop-k.k _ c.loop-k-test.true c.loop-k.invariant h

pub loop-k-preserved : goal.loop-k-preserved
loop-k-preserved c =
    let h = rw c.if-not-branch.false at c.in_ok-goes_on.ensures in
    that_is witness_of (CanGo c.args.walk.now.levels (stacked c.args.walk.now.stack.items)) c.args.words.now c.loop-k.k _ c.loop-k-test.true c.loop-k.invariant h

pub returns : goal.returns
returns c = all_are witness_of (CanGo c.args.walk.now.levels (stacked c.args.walk.now.stack.items)) c.args.words.now c.loop-k.k c.loop-k-test.false c.loop-k.invariant
