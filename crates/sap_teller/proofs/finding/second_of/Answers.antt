use Rattle.std.proofs.Common.{arith}
use Rattle.sap_teller.proofs.Seconds.{second_of_two, no_pair}
use Rattle.sap_teller.proofs.finding.second_of.Goals.{else-is-via-then-is+else-len-eq2, else-is-via-else-is}
use Rattle.sap_teller.proofs.finding.second_of.Goals as goal

pub returns-then-len-eq2-clause-some : goal.returns-then-len-eq2-clause-some
returns-then-len-eq2-clause-some c = rw c.in-App.is (second_of_two c.in-App.f c.in-App.args _ (c.is.ensures.equal.0 c.if-is.true) (omega arith) c.at.ensures.got)

pub returns-else-is-clause-none : goal.returns-else-is-clause-none
returns-else-is-clause-none c a b =
    rw c.in-App.is
    (no_pair c.in-App.f c.in-App.args a b (λ name two. elim c.else-is.branch [ else-is-via-then-is+else-len-eq2 w ↦ absurd (omega (arith, two, w.if-len-eq2.false)) | else-is-via-else-is w ↦ (let yes = c.is.ensures.equal.1 name in let no = w.if-is.false in absurd (cc)) ]))
