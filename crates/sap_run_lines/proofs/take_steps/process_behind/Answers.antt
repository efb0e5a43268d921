use Rattle.std.proofs.Common.{◌≡◌, ◌<◌, [], length, Option, Some, None, sym, ap, ◌∙◌, arith, ℕ}
use Rattle.std.proofs.lemmas.Grind.{common_steps}
use Rattle.sap_run_lines.specs.code.Taking.{given}
use Rattle.sap_run_lines.specs.code.WordTaking.{on_words}
use Rattle.sap_run_lines.specs.code.StepTaking.{number_of}
use Rattle.sap_run_lines.specs.NumberedSteps.{process_one, process_two}
use Rattle.sap_run_lines.proofs.WordsOn.{behind_none, behind_some}
use Rattle.sap_run_lines.proofs.take_steps.process_behind.Goals as goal

pub returns-then-is_empty : goal.returns-then-is_empty
returns-then-is_empty c =
    let none : c.args.bytes.now ≡ [] = grind (arith, common_steps) in
    c.process_one.ensures ∙ behind_none c.args.word.now c.args.t c.args.bytes.now none

pub returns-in-None : goal.returns-in-None
unfolding given
returns-in-None c =
    let some : 0 < length c.args.bytes.now = grind (arith, common_steps) in
    let is : None ≡ on_words number_of c.args.bytes.now = rw c.in-None.is at c.in_ok-number_of.ensures in
    ap (λ (o : Option ℕ). given o (process_two c.args.word.now c.args.t)) is ∙ sym (behind_some c.args.word.now c.args.t c.args.bytes.now some)

pub returns-in-Some : goal.returns-in-Some
unfolding given
returns-in-Some c =
    let some : 0 < length c.args.bytes.now = grind (arith, common_steps) in
    let is : Some c.in-Some.b ≡ on_words number_of c.args.bytes.now = rw c.in-Some.is at c.in_ok-number_of.ensures in
    c.process_two.ensures ∙ (ap (λ (o : Option ℕ). given o (process_two c.args.word.now c.args.t)) is ∙ sym (behind_some c.args.word.now c.args.t c.args.bytes.now some))
