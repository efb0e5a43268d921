-- Runs of accepted files and theories: which are legal, what is written of them, and what is so of what `fill` writes.
use Rattle.std.specs.Prelude.{◌≡◌, ◌≤◌, ℕ, List, length, Ok}
use Rattle.sap_lines.specs.Runs.{IsLegalProcessRun}
use Rattle.sap_process.specs.Configuration.{Config}
use Rattle.sap_read.specs.Files.{FileContent}
use Rattle.sap_rule.specs.declared.theory.Theory.{Theory}
use Rattle.sap_run_texts.specs.RunPrinted.{process_run_text}
use Rattle.sap_run_texts.specs.RunTexts.{IsProcessRunText}
use Rattle.sap_run_texts.specs.declared.limits.TheConstants.{MOST_PROCESS_STEPS}
use Rattle.sap_run_texts.specs.declared.run.Kinds.{Kinds}
use Rattle.sap_run_texts.specs.declared.run.Kinds.TheVariants.{Rules}
use Rattle.sap_run_texts.specs.declared.run.Run.{Run}
use Rattle.sap_runs.specs.Limits.{HasFewNodes}
use Rattle.sap_runs.specs.Marks.{Mark}
use Rattle.sap_runs.specs.declared.process_step.PStep.{PStep}
use Rattle.sap_terms.specs.Trace.{Trace}
use Rattle.sap_terms.specs.Tree.{Tree}
use Rattle.sap_replay.specs.Replays.{IsSeen, IsFullOf, IsCheckedText}
use Rattle.sap_replay.specs.ShortRuns.{IsAcceptedShort}
use Rattle.sap_replay.specs.AcceptedFile.{IsAcceptedFile}
use Rattle.sap_replay.specs.AcceptedTheory.{IsAcceptedTheory}
use Rattle.sap_outside.specs.RunPieces.{IsRunAnswer}
use Rattle.sap_intruder.specs.FilledRuns.{IsFilled, IsFilledRun, IsSparingRun}
use Rattle.sap_intruder.specs.ShortRuns.{IsLegalShortRun}
use Rattle.sap_runs.specs.declared.short_step.SStep.{SStep}

-- the bytes are an accepted file, and those of the run an accepted run of a kind that is asked for, of which such a text is written
pub record IsReplayed (kinds : Kinds) (Is : FileContent → Run → List ℕ → Type 0)
    (bytes z text : List ℕ) : Type 0 where
  pub told : FileContent
  pub file : IsAcceptedFile bytes told
  pub lines : Run
  pub read : IsRunAnswer kinds z (Ok lines)
  pub written : Is told lines text

-- the bytes are an accepted theory, and those of the run an accepted run of rules, of which such a text is written
pub record IsChecked (bytes z text : List ℕ) : Type 0 where
  pub theory : Theory
  pub file : IsAcceptedTheory bytes theory
  pub lines : Run
  pub read : IsRunAnswer Rules z (Ok lines)
  pub written : IsCheckedText theory lines text

-- the bytes are an accepted file, and those of the run a run of a kind that is asked for, which is legal within the limit; of rules, its
-- full trace is admitted
pub record IsLegalOfFile (kinds : Kinds) (bytes z : List ℕ) : Type 0 where
  pub told : FileContent
  pub file : IsAcceptedFile bytes told
  pub lines : Run
  pub read : IsRunAnswer kinds z (Ok lines)
  pub trace : Trace
  pub seen : IsSeen told lines trace

-- the bytes are an accepted theory, and those of the run a run of its rules, which is legal within the limit
pub record IsLegalOfTheory (bytes z : List ℕ) : Type 0 where
  pub theory : Theory
  pub file : IsAcceptedTheory bytes theory
  pub lines : Run
  pub read : IsRunAnswer Rules z (Ok lines)
  pub full : Trace
  pub shown : IsFullOf theory lines full

-- the bytes are an accepted file, and those of the run an accepted short run; the text is that of lines that fill it, none of them idle
pub record IsFilledText (bytes z text : List ℕ) : Type 0 where
  pub told : FileContent
  pub file : IsAcceptedFile bytes told
  pub run : List SStep
  pub read : IsAcceptedShort z run
  pub lines : List PStep
  pub filled : IsFilled told.signature told.process run lines
  pub layout : text ≡ process_run_text lines

-- the bytes are an accepted file, and those of the run an accepted short run, which is legal within the limit
pub record IsLegalShortOfFile (bytes z : List ℕ) : Type 0 where
  pub told : FileContent
  pub file : IsAcceptedFile bytes told
  pub run : List SStep
  pub read : IsAcceptedShort z run
  pub config : Config
  pub trace : Trace
  pub marks : List Mark
  pub legal : IsLegalShortRun told.signature HasFewNodes told.process run config trace marks

-- So the text is that of a run of the file's process that is legal within the limit, and the short run is legal too: both lead to one
-- configuration, with one trace and the same marks. None of its lines is idle. It is read as that run, unless that has more lines than a run
-- may have.
pub record IsLegalFilling (bytes z text : List ℕ) : Type 0 where
  pub short : IsLegalShortOfFile bytes z
  pub lines : List PStep
  pub layout : text ≡ process_run_text lines
  pub entries : List Tree
  pub fills : IsFilledRun short.told.signature HasFewNodes short.told.process short.run lines
      short.config entries short.trace short.marks
  pub sparing : IsSparingRun short.told.signature short.told.process short.run lines
      short.config entries short.trace short.marks
  pub legal : IsLegalProcessRun short.told.signature HasFewNodes short.told.process lines
      short.config entries short.trace short.marks
  pub read : length lines ≤ MOST_PROCESS_STEPS → IsProcessRunText text (Ok lines)
