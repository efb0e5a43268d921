use Rattle.std.proofs.Common.{◌≡◌, ◌++◌, drop}
use Rattle.sap_run_texts.specs.code.StepText.{numbers_text}
use Rattle.sap_run_texts.proofs.step_text.push_numbers.Given as goal

abbrev pub invariant-loop-number : goal.invariant-loop-number
invariant-loop-number l = l.text ++ numbers_text (drop l.number-index l.number-items) ≡ l.initial.text ++ numbers_text l.number-items
