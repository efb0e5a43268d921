-- How runs are written.
use Rattle.std.specs.Prelude.{ℕ, List, [], ◌∷◌, map}
use Rattle.sap_runs.specs.declared.process_step.PStep.{PStep}
use Rattle.sap_runs.specs.declared.rule_step.RStep.{RStep}
use Rattle.sap_run_lines.specs.StepLines.{process_words, rule_words}
use Rattle.sap_run_lines.specs.LineText.{words_text}
use Rattle.sap_run_texts.specs.RunTexts.{lines_text, process_head, rule_head}

-- the head, and a line for each step
abbrev pub process_run_text : List PStep → List ℕ
process_run_text ss = lines_text (process_head ∷ map (λ s. words_text (process_words s)) ss)

-- the same of a run of rules
abbrev pub rule_run_text : List RStep → List ℕ
rule_run_text ss = lines_text (rule_head ∷ map (λ s. words_text (rule_words s)) ss)

-- each of these
abbrev pub Each : {A : Type 0} → (A → Type 0) → List A → Type 0
Each P [] = Unit {0}
Each P (s ∷ ss) = P s × Each P ss
