-- Of the text of a run opposite is said what is said of the run that was read.
use Rattle.std.proofs.Common.{ℕ, List, Ok}
use Rattle.sap_runs.specs.declared.process_step.PStep.{PStep}
use Rattle.sap_runs.specs.declared.rule_step.RStep.{RStep}
use Rattle.sap_run_texts.specs.declared.run.Kinds.TheVariants.{Either}
use Rattle.sap_run_texts.specs.declared.run.Run.{Run}
use Rattle.sap_run_texts.specs.declared.run.Run.TheVariants as run
use Rattle.sap_run_texts.specs.RunPrinted.{process_run_text, rule_run_text}
use Rattle.sap_run_texts.specs.RunTexts.{IsHeaded, IsText, headed, IsProcessRunText, IsRuleRunText, IsRunRead, told_process, told_rules, process_head, rule_head}
use Rattle.sap_outside.specs.RunPieces.{is_run}
use Rattle.sap_read.specs.Files.{FileContent}
use Rattle.sap_replay.specs.Replays.{IsOppositeText, rules_of_process, process_of_rules, IsJudgedAlike}

-- a text that is a run has its head
its_head : {A : Type 0} {IsStepLine : A → List ℕ → Type 0} {most : ℕ} (head z : List ℕ) (ss : List A) → IsText head IsStepLine most z (Ok ss) → (body : List ℕ) × IsHeaded head body z
its_head head z ss (headed {body = body} h is) = (body, h)

told_rule_run : (z : List ℕ) (ss : List RStep) → IsRuleRunText z (Ok ss) → IsRunRead Either z (Ok (run.Rules ss))
told_rule_run z ss t = told_rules (its_head rule_head z ss t).1 t

told_process_run : (z : List ℕ) (ss : List PStep) → IsProcessRunText z (Ok ss) → IsRunRead Either z (Ok (run.Process ss))
told_process_run z ss t = told_process (its_head process_head z ss t).1 t

pub judged_texts : (f : FileContent) (r : Run) (text : List ℕ) → IsOppositeText f r text → IsJudgedAlike f r text
judged_texts f _ _ (rules_of_process rule_lines opposite alike read) =
    record { other = run.Rules rule_lines; alike = alike; read = λ few short. is_run short (told_rule_run (rule_run_text rule_lines) rule_lines (read few)) }
judged_texts f _ _ (process_of_rules lines opposite converted alike read) =
    record { other = run.Process lines; alike = alike; read = λ few short. is_run short (told_process_run (process_run_text lines) lines (read few)) }
