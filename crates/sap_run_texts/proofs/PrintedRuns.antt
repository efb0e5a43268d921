-- A printed run is read back, where each of its lines is.
use Rattle.std.proofs.Common.{◌≤◌, ℕ, List, [], ◌∷◌, length, map, Ok, refl}
use Rattle.sap_runs.specs.declared.process_step.PStep.{PStep}
use Rattle.sap_runs.specs.declared.rule_step.RStep.{RStep}
use Rattle.sap_run_lines.specs.LineWords.{LineWord}
use Rattle.sap_run_lines.specs.StepLines.{process_words, rule_words, IsProcessStepLine, IsRuleStepLine}
use Rattle.sap_run_lines.specs.LineText.{words_text}
use Rattle.sap_run_lines.specs.Spellable.{IsWritableProcess, IsWritableRule}
use Rattle.sap_run_texts.specs.declared.limits.TheConstants.{MOST_PROCESS_STEPS, MOST_RULE_STEPS}
use Rattle.sap_run_texts.specs.RunTexts.{AreStepLines, no_lines, lines_more, all_steps, headed, IsProcessRunText, IsRuleRunText}
use Rattle.sap_run_texts.specs.RunPrinted.{Each, process_run_text, rule_run_text}

lines_printed : {A : Type 0} (words : A → List LineWord) (IsStepLine : A → List ℕ → Type 0) (Writable : A → Type 0) → ((s : A) → Writable s → IsStepLine s (words_text (words s)))
    → (ss : List A) → Each Writable ss → AreStepLines IsStepLine ss (map (λ s. words_text (words s)) ss)
lines_printed words IsStepLine Writable line [] h = no_lines
lines_printed words IsStepLine Writable line (s ∷ ss) h = lines_more (line s h.0) (lines_printed words IsStepLine Writable line ss h.1)

pub process_back : ((s : PStep) → IsWritableProcess s → IsProcessStepLine s (words_text (process_words s)))
    → (ss : List PStep) → Each IsWritableProcess ss → length ss ≤ MOST_PROCESS_STEPS → IsProcessRunText (process_run_text ss) (Ok ss)
process_back line ss h few = headed refl (all_steps (lines_printed process_words IsProcessStepLine IsWritableProcess line ss h) few)

pub rule_back : ((s : RStep) → IsWritableRule s → IsRuleStepLine s (words_text (rule_words s)))
    → (ss : List RStep) → Each IsWritableRule ss → length ss ≤ MOST_RULE_STEPS → IsRuleRunText (rule_run_text ss) (Ok ss)
rule_back line ss h few = headed refl (all_steps (lines_printed rule_words IsRuleStepLine IsWritableRule line ss h) few)
