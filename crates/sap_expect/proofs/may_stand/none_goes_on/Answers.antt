use Rattle.std.specs.Prelude.{map}
use Rattle.sap_expect.specs.Kinds.{kind_of}
use Rattle.sap_expect.specs.code.Going.{CanGo, Each, wide_words}
use Rattle.sap_expect.specs.code.WantedView.{stacked}
use Rattle.sap_expect.proofs.KindRows.{all_are, all_left, isnt_false, isnt_true, that_is, that_not}
use Rattle.sap_expect.proofs.may_stand.none_goes_on.Goals as goal

pub loop-k-init : goal.loop-k-init
loop-k-init c = all_left (λ ws. Each (CanGo c.args.walk.now.levels (stacked c.args.walk.now.stack.items)) ws → ⊥) (map (λ k. wide_words (kind_of k)) c.args.kinds.now)

pub returns-then-branch : goal.returns-then-branch
returns-then-branch c =
    let h = rw c.if-branch.true at c.in_ok-kind_goes_on.ensures in
    that_not (λ k. wide_words (kind_of k)) (λ ws. Each (CanGo c.args.walk.now.levels (stacked c.args.walk.now.stack.items)) ws → ⊥) c.args.kinds.now c.loop-k.k _ c.loop-k-test.true c.loop-k.invariant (isnt_true h)

pub loop-k-preserved : goal.loop-k-preserved
loop-k-preserved c =
    let h = rw c.if-branch.false at c.in_ok-kind_goes_on.ensures in
    that_is (λ k. wide_words (kind_of k)) (λ ws. Each (CanGo c.args.walk.now.levels (stacked c.args.walk.now.stack.items)) ws → ⊥) c.args.kinds.now c.loop-k.k _ c.loop-k-test.true c.loop-k.invariant (isnt_false h)

pub returns : goal.returns
returns c = all_are (λ k. wide_words (kind_of k)) (λ ws. Each (CanGo c.args.walk.now.levels (stacked c.args.walk.now.stack.items)) ws → ⊥) c.args.kinds.now c.loop-k.k c.loop-k-test.false c.loop-k.invariant
