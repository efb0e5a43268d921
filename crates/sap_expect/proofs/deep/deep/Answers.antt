use Rattle.sap_expect.specs.code.SeenWords.{seen}
use Rattle.sap_expect.specs.FileTable.{all_but}
use Rattle.sap_expect.specs.code.Going.{CanGoBy}
use Rattle.sap_expect.specs.code.WantedView.{stacked}
use Rattle.sap_expect.proofs.TooDeepWords.{is_so, none_of_three}
use Rattle.sap_expect.proofs.deep.deep.Goals as goal

pub returns-then-branch : goal.returns-then-branch
returns-then-branch c =
    let h = rw c.if-branch.true at c.in_ok-goes_without.ensures in
    is_so h

pub returns-then-branch-2 : goal.returns-then-branch-2
returns-then-branch-2 c =
    let h = rw c.if-branch-2.true at c.in_ok-goes_without-2.ensures in
    is_so h

pub returns-then-branch-3 : goal.returns-then-branch-3
returns-then-branch-3 c =
    let h = rw c.if-branch-3.true at c.in_ok-goes_without-3.ensures in
    is_so h

pub returns : goal.returns
returns c =
    let x = rw c.if-branch.false at c.in_ok-goes_without.ensures in
    let y = rw c.if-branch-2.false at c.in_ok-goes_without-2.ensures in
    let z = rw c.if-branch-3.false at c.in_ok-goes_without-3.ensures in
    none_of_three (λ d. CanGoBy (all_but d) c.args.walk.now.levels (stacked c.args.walk.now.stack.items) (seen c.args.word)) x y z
