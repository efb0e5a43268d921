-- What is written of a run means what it says.
use Rattle.std.proofs.Common.{ℕ, List, Ok}
use Rattle.sap_terms.specs.declared.limits.TheConstants.{MOST_FILE_NAME_BYTES, MOST_THEORY_NAME_BYTES}
use Rattle.sap_read.specs.Files.{FileContent, IsRunnable}
use Rattle.sap_read.specs.Printable.{IsPrintableFile}
use Rattle.sap_read.specs.declared.limits.TheConstants.{MOST_NEW_NAME_BYTES}
use Rattle.sap_theory.specs.PrintableTheory.{IsPrintable}
use Rattle.sap_gen.specs.Kept.{file_theory}
use Rattle.sap_templates.specs.Templates.{rules_of}
use Rattle.sap_run_texts.specs.declared.run.Kinds.{Kinds}
use Rattle.sap_run_texts.specs.declared.run.Run.{Run}
use Rattle.sap_outside.specs.RunPieces.{IsRunAnswer}
use Rattle.sap_replay.specs.Tasks.{Writes, Says}
use Rattle.sap_replay.specs.Replays.{IsConvertedText, to_rules, to_process, IsOppositeText, rules_of_process, process_of_rules, IsSeen, of_process, of_rules}
use Rattle.sap_replay.specs.declared.task.Task.{Task}
use Rattle.sap_replay.specs.declared.task.Task.TheVariants.{ToRules, ToProcess, Judge, Tell, Chart}
use Rattle.sap_replay.proofs.Opposites.{forward_is_opposite, back_is_opposite}
use Rattle.sap_replay.proofs.ToldMeant as telling
use Rattle.sap_replay.proofs.ToldMeant.{AreAlike, told_says, drawn_says, told_is_seen, drawn_is_seen}
use Rattle.sap_replay.proofs.Written as written
use Rattle.sap_replay.proofs.Written.{opposite_is_read, process_text_of_answer}
use Rattle.sap_replay.proofs.WrittenRules.{RuleLaws, rules_are_read}
use Rattle.sap_terms.specs.Trace.{Trace}
use Rattle.sap_formula.specs.Hide.{hide}

-- what is so of texts of runs, and of what is said on runs that are opposite
pub record Laws : Type 0 where
  pub texts : written.Laws
  pub rules : RuleLaws
  pub alike : AreAlike
  pub told : telling.Laws

-- the file can be printed, and its theory
pub record CanBePrinted (f : FileContent) : Type 0 where
  pub file : IsPrintableFile MOST_FILE_NAME_BYTES MOST_NEW_NAME_BYTES f
  pub theory : IsPrintable MOST_THEORY_NAME_BYTES (file_theory f)

module _ (laws : Laws) (k : Kinds) (z : List ℕ) (f : FileContent) (runnable : IsRunnable f) (printable : CanBePrinted f) where
  converted_is_opposite : (r : Run) (text : List ℕ) → IsRunAnswer k z (Ok r) → IsConvertedText f r text → IsOppositeText f r text
  converted_is_opposite _ _ answer (to_rules {lines = lines} rule_lines c numbered) =
      let opposite = forward_is_opposite f lines rule_lines c in
      rules_of_process rule_lines opposite (λ text. laws.alike f lines rule_lines text runnable opposite)
      (λ short. rules_are_read laws.rules f printable.file printable.theory z lines rule_lines (process_text_of_answer k z lines answer) c numbered short)
  converted_is_opposite _ _ answer (to_process {rule_lines = rule_lines} lines c numbered) =
      let opposite = back_is_opposite f rule_lines lines c in
      process_of_rules lines opposite c (λ text. let both = laws.alike f lines rule_lines text runnable opposite in (both.1, both.0))
      (λ short. opposite_is_read laws.texts k z (rules_of f.process) rule_lines c.full lines answer c.turns numbered short)

  -- what a task writes of a run that was read says what it should
  pub written_says : (task : Task) (bytes : List ℕ) (r : Run) (text : List ℕ) → IsRunAnswer k z (Ok r) → Writes task bytes f r text → Says task bytes f r text
  written_says ToRules bytes r text answer w = converted_is_opposite r text answer w
  written_says ToProcess bytes r text answer w = converted_is_opposite r text answer w
  written_says Judge bytes r text answer w = w
  written_says Tell bytes r text answer w = told_says laws.told laws.alike bytes f r text runnable w
  written_says Chart bytes r text answer w = drawn_says laws.told bytes f r text w

-- what is converted is seen
converted_is_seen : (f : FileContent) (r : Run) (text : List ℕ) → IsConvertedText f r text → (tr : Trace) × IsSeen f r tr
converted_is_seen f _ _ (to_rules rule_lines c numbered) = (c.trace, of_process (record { config = c.config; entries = c.entries; marks = c.marks; legal = c.legal }))
converted_is_seen f _ _ (to_process lines c numbered) = (hide c.full, of_rules c.state c.full c.counted)

-- so is what any task writes of
pub written_is_seen : telling.Laws → (task : Task) (bytes : List ℕ) (f : FileContent) (r : Run) (text : List ℕ) → Writes task bytes f r text → (tr : Trace) × IsSeen f r tr
written_is_seen law ToRules bytes f r text w = converted_is_seen f r text w
written_is_seen law ToProcess bytes f r text w = converted_is_seen f r text w
written_is_seen law Judge bytes f r text w = (w.trace, w.seen)
written_is_seen law Tell bytes f r text w = told_is_seen law bytes f r text w
written_is_seen law Chart bytes f r text w = drawn_is_seen law bytes f r text w
