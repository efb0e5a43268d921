-- What the bytes of a short run of a file end with, once the file is there.
use Rattle.std.specs.Prelude.{◌≡◌, ℕ, List}
use Rattle.sap_intruder.specs.OneAnswer.{IsFirstRefusedOfShort}
use Rattle.sap_intruder.specs.declared.fill_at.FillAt.{FillAt}
use Rattle.sap_intruder.specs.declared.fill_at.FillAt.TheVariants as at
use Rattle.sap_intruder.specs.declared.fill_fault.FillFault.{FillFault}
use Rattle.sap_read.specs.Files.{FileContent}
use Rattle.sap_refusals.specs.RunFaultTexts.{at_step, run_refused_line}
use Rattle.sap_refusals.specs.ShortFaultTexts.{fill_fault_text}
use Rattle.sap_runs.specs.declared.short_step.SStep.{SStep}

-- a step of the short run is the first that is refused, for this cause
pub data IsFirstRefusedWith (f : FileContent) (run : List SStep) : List ℕ → Type 0 where
  first : (number : ℕ) (e : FillFault) → IsFirstRefusedOfShort f.signature f.process run number e
      → IsFirstRefusedWith f run (at_step number (fill_fault_text e))

-- the line says where and why a short run is refused; that memory was wanting has no line
abbrev pub IsFillLine : FillAt → List ℕ → Type 0
IsFillLine at.Mem line = ⊥
IsFillLine (at.Step step fault) line = line ≡ run_refused_line (at_step step (fill_fault_text fault))
