-- What is so of all runs: what is written of them means what it should, one cause refuses one, and none refuses one that is legal.
use Rattle.std.specs.Prelude.{◌≡◌, ◌≤◌, ℕ, List, length, All, Ok}
use Rattle.sap_intruder.specs.FilledRuns.{IsFilled}
use Rattle.sap_intruder.specs.ShortRuns.{IsLegalShortRun}
use Rattle.sap_outside.specs.RunPieces.{IsRunAnswer}
use Rattle.sap_process.specs.Configuration.{Config}
use Rattle.sap_read.specs.Files.{FileContent, IsRunnable}
use Rattle.sap_read.specs.Printable.{IsPrintableFile}
use Rattle.sap_read.specs.declared.limits.TheConstants.{MOST_NEW_NAME_BYTES}
use Rattle.sap_rule.specs.WellMade.{IsWellMade}
use Rattle.sap_rule.specs.declared.theory.Theory.{Theory}
use Rattle.sap_run_texts.specs.RunPrinted.{process_run_text}
use Rattle.sap_run_texts.specs.RunTexts.{IsProcessRunText}
use Rattle.sap_run_texts.specs.declared.limits.TheConstants.{MOST_PROCESS_STEPS}
use Rattle.sap_run_texts.specs.declared.run.Kinds.{Kinds}
use Rattle.sap_run_texts.specs.declared.run.Kinds.TheVariants.{Rules, Either}
use Rattle.sap_run_texts.specs.declared.run.Run.{Run}
use Rattle.sap_runs.specs.Limits.{HasFewNodes}
use Rattle.sap_runs.specs.Marks.{Mark}
use Rattle.sap_runs.specs.declared.process_step.PStep.{PStep}
use Rattle.sap_runs.specs.declared.short_step.SStep.{SStep}
use Rattle.sap_terms.specs.Signature.{HoldsBuiltins}
use Rattle.sap_terms.specs.Trace.{Trace}
use Rattle.sap_terms.specs.declared.limits.TheConstants.{MOST_FILE_NAME_BYTES}
use Rattle.sap_replay.specs.JsonRuns.{IsAcceptedJson, IsJsonRefusedWith, IsJsonOf, IsReadAsJson, IsRunOfJson, IsReadAsRun}
use Rattle.sap_replay.specs.Replays.{IsSeen, IsFullOf}
use Rattle.sap_replay.specs.RunRefusals.{IsIllegal, IsIllegalOfTheory, IsNeverIllegal, IsRunRefusedWith}
use Rattle.sap_replay.specs.ShortRuns.{IsAcceptedShort, IsShortRefusedWith}
use Rattle.sap_replay.specs.Tasks.{Writes, Says}
use Rattle.sap_replay.specs.declared.task.Task.{Task}

-- What is written of a run means what it should: what a task writes of one that was read, where its file can run and can be printed,
-- and of none that isn't legal it writes something; and what is written of a run as JSON, or of JSON as a run. Lines that fill a short
-- run that was read are what their text is read as, where they aren't more than a run may have.
pub record TextsMeanWhatTheySay : Type 0 where
  pub written : (task : Task) (bytes : List ℕ) (f : FileContent) (kinds : Kinds) (z : List ℕ) (r : Run)
      (text : List ℕ) → IsRunnable f → IsPrintableFile MOST_FILE_NAME_BYTES MOST_NEW_NAME_BYTES f
      → IsRunAnswer kinds z (Ok r) → Writes task bytes f r text → Says task bytes f r text
  pub legal : (task : Task) (bytes : List ℕ) (f : FileContent) (r : Run) (text : List ℕ) → Writes task bytes f r text
      → (tr : Trace) × IsSeen f r tr
  pub as_json : (z text : List ℕ) → IsJsonOf z text → IsReadAsJson z text
  pub of_json : (bytes text : List ℕ) → IsRunOfJson bytes text → IsReadAsRun bytes text
  pub filled : (f : FileContent) (z : List ℕ) (run : List SStep) (lines : List PStep) → IsRunnable f
      → IsPrintableFile MOST_FILE_NAME_BYTES MOST_NEW_NAME_BYTES f → IsAcceptedShort z run
      → IsFilled f.signature f.process run lines → length lines ≤ MOST_PROCESS_STEPS
      → IsProcessRunText (process_run_text lines) (Ok lines)

-- Bytes are refused for one cause at most: as a run of a file that can run, of a theory whose rules can, or of neither; as a short run
-- of a file that can run; and as JSON.
pub record RefusedRunsHaveOneCause : Type 0 where
  pub file : (f : FileContent) (kinds : Kinds) (z why other : List ℕ) → IsRunnable f
      → IsRunRefusedWith kinds (IsIllegal f) z why → IsRunRefusedWith kinds (IsIllegal f) z other
      → why ≡ other
  pub theory : (t : Theory) (z why other : List ℕ) → HoldsBuiltins t.signature
      → All (IsWellMade t.signature) t.rules → IsRunRefusedWith Rules (IsIllegalOfTheory t) z why
      → IsRunRefusedWith Rules (IsIllegalOfTheory t) z other → why ≡ other
  pub alone : (z why other : List ℕ) → IsRunRefusedWith Either IsNeverIllegal z why
      → IsRunRefusedWith Either IsNeverIllegal z other → why ≡ other
  pub short : (f : FileContent) (z why other : List ℕ) → IsRunnable f → IsShortRefusedWith f z why
      → IsShortRefusedWith f z other → why ≡ other
  pub json : (bytes why other : List ℕ) → IsJsonRefusedWith bytes why
      → IsJsonRefusedWith bytes other → why ≡ other

-- and where they are a legal run, for none
pub record LegalRunsAreNotRefused : Type 0 where
  pub file : (f : FileContent) (kinds : Kinds) (z why : List ℕ) (r : Run) (tr : Trace)
      → IsRunnable f → IsRunAnswer kinds z (Ok r) → IsSeen f r tr
      → IsRunRefusedWith kinds (IsIllegal f) z why → ⊥
  pub theory : (t : Theory) (z why : List ℕ) (r : Run) (full : Trace) → HoldsBuiltins t.signature
      → All (IsWellMade t.signature) t.rules → IsRunAnswer Rules z (Ok r) → IsFullOf t r full
      → IsRunRefusedWith Rules (IsIllegalOfTheory t) z why → ⊥
  pub alone : (z why : List ℕ) (r : Run) → IsRunAnswer Either z (Ok r)
      → IsRunRefusedWith Either IsNeverIllegal z why → ⊥
  pub short : (f : FileContent) (z why : List ℕ) (run : List SStep) (c : Config) (tr : Trace)
      (ms : List Mark) → IsRunnable f → IsAcceptedShort z run
      → IsLegalShortRun f.signature HasFewNodes f.process run c tr ms
      → IsShortRefusedWith f z why → ⊥
  pub json : (bytes why : List ℕ) (r : Run) → IsAcceptedJson bytes r
      → IsJsonRefusedWith bytes why → ⊥
