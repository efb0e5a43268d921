use Rattle.std.proofs.Common.{◌≡◌, ℕ, Option, None, Some, subst}
use Rattle.std.specs.Prelude.{IfSome}
use Rattle.sap_outside.specs.Stream.{Stream}
use Rattle.sap_answer.specs.Answer.{Answer, gives, tells, HasText, IsDelivered, no_memory}
use Rattle.sap_answer.specs.Endings.{answer_of}
use Rattle.sap_answer.proofs.Appending.{nothing_put, memory_is}
use Rattle.sap_answer.proofs.delivering.deliver.Goals as goal

-- what is delivered of one answer is delivered of the same
same : (a b : Option Answer) (out err : Stream) (status : ℕ) → a ≡ b
    → (IfSome a HasText → IsDelivered a out err status) → IfSome b HasText → IsDelivered b out err status
same a b out err status = subst (λ (x : Option Answer). IfSome x HasText → IsDelivered x out err status)

pub returns-in-Some-Out : goal.returns-in-Some-Out
returns-in-Some-Out g c =
    same (Some (gives c.in-Some-Out.text.now)) (answer_of c.args.ending.now) _ _ _
    (rw c.in-Some-Out.field-0-is at c.in-Some-Out.ensures) (λ has. c.give.ensures)

pub returns-in-Some-Err : goal.returns-in-Some-Err
returns-in-Some-Err g c =
    same (Some (tells c.in-Some-Err.status c.in-Some-Err.text.now)) (answer_of c.args.ending.now) _ _ _
    (rw c.in-Some-Err.field-0-is at c.in-Some-Err.ensures) (λ has. c.tell.ensures _ (nothing_put _ _) has)

pub returns-in-None : goal.returns-in-None
returns-in-None g c =
    let word = c.last_word.ensures in
    same None (answer_of c.args.ending.now) _ _ _ c.in-None.ensures
    (λ has. no_memory word.ends.0 word.status (nothing_put _ _) (word.ends.1, word.asked memory_is) word.ends.2)
