use Rattle.sap_expect.proofs.KindRows.{both_true_is, first_false_is, if_ok}
use Rattle.sap_expect.proofs.may_stand.is_named.Goals as goal

pub returns-then-branch : goal.returns-then-branch
returns-then-branch c =
    let h = rw c.if-branch.true at c.in_ok-all_go_on.ensures in
    if_ok c.none_goes_on.result (λ b d. both_true_is b h d) c.none_goes_on.ensures

pub returns-else-branch : goal.returns-else-branch
returns-else-branch c =
    let h = rw c.if-branch.false at c.in_ok-all_go_on.ensures in
    first_false_is h
