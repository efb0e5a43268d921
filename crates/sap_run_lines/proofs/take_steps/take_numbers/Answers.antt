use Rattle.std.proofs.Common.{◌≡◌, ◌++◌, ◌∷◌, [], ℕ, List, Some, None, sym, subst}
use Rattle.sap_run_lines.specs.code.StepTaking.{number_behind}
use Rattle.sap_run_lines.proofs.WordsOn.{AreNumbersSoFar, number_shorter, numbers_go, numbers_stop}
use Rattle.sap_run_lines.proofs.take_steps.take_numbers.Goals as goal

pub loop-number-smaller : goal.loop-number-smaller
loop-number-smaller c =
    let is : number_behind c.loop-number.rest.now ≡ Some (c.in-Some.number, c.in-Some.next.now) = rw c.in-Some.is at c.number_behind.ensures in
    number_shorter _ _ _ is

pub loop-number-preserved : goal.loop-number-preserved
loop-number-preserved c =
    let is : number_behind c.loop-number.rest.now ≡ Some (c.in-Some.number, c.in-Some.next.now) = rw c.in-Some.is at c.number_behind.ensures in
    let pushed : c.push.new.self ≡ c.loop-number.numbers ++ c.in-Some.number ∷ [] = c.in_ok-push.ensures.ok in
    subst (λ (ks : List ℕ). AreNumbersSoFar c.args.bytes.now ks c.in-Some.next.now) (sym pushed) (numbers_go _ _ _ _ _ c.loop-number.invariant is)

pub returns : goal.returns
returns c =
    let none : number_behind c.loop-number.rest.now ≡ None = rw c.in_default.is at c.number_behind.ensures in
    numbers_stop _ _ _ c.loop-number.invariant none
