-- Short runs: which are accepted, why other bytes are refused, and what is written of them.
use Rattle.std.specs.Prelude.{◌≡◌, ◌<◌, ◌≤◌, ℕ, List, length, Ok, Err}
use Rattle.sap_intruder.specs.FilledRuns.{IsFilled}
use Rattle.sap_intruder.specs.OneAnswer.{IsFirstRefusedOfShort}
use Rattle.sap_intruder.specs.declared.fill_fault.FillFault.{FillFault}
use Rattle.sap_outside.specs.RunPieces.{most_run_bytes}
use Rattle.sap_outside.specs.declared.run_refusal.RunRefusal.TheVariants as refusal
use Rattle.sap_read.specs.Files.{FileContent}
use Rattle.sap_refusals.specs.RunFaultTexts.{at_step, run_refusal_text}
use Rattle.sap_refusals.specs.ShortFaultTexts.{fill_fault_text, short_fault_text}
use Rattle.sap_run_texts.specs.RunPrinted.{process_run_text}
use Rattle.sap_run_texts.specs.ShortTexts.{IsShortRunText}
use Rattle.sap_run_texts.specs.declared.run_fault.RunFault.{RunFault}
use Rattle.sap_runs.specs.declared.process_step.PStep.{PStep}
use Rattle.sap_runs.specs.declared.short_step.SStep.{SStep}

-- the bytes aren't too many, and they are this short run
pub record IsAcceptedShort (z : List ℕ) (run : List SStep) : Type 0 where
  pub few : length z ≤ most_run_bytes
  pub read : IsShortRunText z (Ok run)

-- the bytes are refused for this cause: they are too many; else they are no short run; else a step of the short run is the first that
-- the file's process can't follow within the limit on terms, whatever lines by which the adversary makes terms stand before it
pub data IsShortRefusedWith (f : FileContent) (z : List ℕ) : List ℕ → Type 0 where
  too_long : most_run_bytes < length z
      → IsShortRefusedWith f z (run_refusal_text refusal.TooLong)
  no_run : {e : RunFault} → length z ≤ most_run_bytes → IsShortRunText z (Err e)
      → IsShortRefusedWith f z (short_fault_text e)
  illegal : {run : List SStep} (number : ℕ) (e : FillFault) → IsAcceptedShort z run
      → IsFirstRefusedOfShort f.signature f.process run number e
      → IsShortRefusedWith f z (at_step number (fill_fault_text e))

-- the text is that of lines that fill the short run, none of them idle
pub record IsTextFilling (f : FileContent) (run : List SStep) (text : List ℕ) : Type 0 where
  pub lines : List PStep
  pub filled : IsFilled f.signature f.process run lines
  pub layout : text ≡ process_run_text lines

-- the bytes are an accepted short run, and the text is that of such lines
pub record IsFilledOf (f : FileContent) (z text : List ℕ) : Type 0 where
  pub run : List SStep
  pub read : IsAcceptedShort z run
  pub written : IsTextFilling f run text
