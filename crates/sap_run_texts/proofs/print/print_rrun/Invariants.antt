use Rattle.std.proofs.Common.{◌≡◌, ◌++◌, map, drop}
use Rattle.sap_run_lines.specs.StepLines.{rule_words}
use Rattle.sap_run_texts.specs.RunTexts.{lines_text}
use Rattle.sap_run_lines.specs.LineText.{words_text}
use Rattle.sap_run_texts.specs.RunPrinted.{Each}
use Rattle.sap_run_texts.specs.Writable.{AreNumbered}
use Rattle.sap_run_texts.proofs.print.print_rrun.Given as goal

abbrev pub invariant-loop-step : goal.invariant-loop-step
invariant-loop-step l = record {
  text : l.text ++ lines_text (map (λ s. words_text (rule_words s)) (drop l.step-index l.step-items))
      ≡ l.initial.text ++ lines_text (map (λ s. words_text (rule_words s)) l.step-items);
  numbers : Each (λ s. AreNumbered (rule_words s)) (drop l.step-index l.step-items) → Each (λ s. AreNumbered (rule_words s)) l.step-items;
}
