-- The first line of a run of a process that is refused.
use Rattle.std.specs.Prelude.{◌≡◌, ◌+◌, ℕ, List, ◌∷◌, ◌++◌, length}
use Rattle.sap_terms.specs.Signature.{Sig}
use Rattle.sap_terms.specs.Trace.{Trace}
use Rattle.sap_terms.specs.Tree.{Tree}
use Rattle.sap_process.specs.Configuration.{Config}
use Rattle.sap_process.specs.Proc.{Proc}
use Rattle.sap_runs.specs.Limits.{HasFewNodes}
use Rattle.sap_runs.specs.Marks.{Mark}
use Rattle.sap_runs.specs.declared.process_step.PStep.{PStep}
use Rattle.sap_lines.specs.Faults.{IsRefused}
use Rattle.sap_lines.specs.Runs.{IsLegalProcessRun}
use Rattle.sap_lines.specs.declared.fault.PFault.{PFault}
use Rattle.sap_lines.specs.declared.fault.PFault.TheVariants.{Mem}

-- the lines before the one with this number, from 1, are a legal run within the limit, and that one is refused for this cause
pub record IsFirstRefusedOfProcess (g : Sig) (start : Proc) (lines : List PStep) (number : ℕ)
    (fault : PFault) : Type 0 where
  pub before : List PStep
  pub line : PStep
  pub after : List PStep
  pub cut : lines ≡ before ++ line ∷ after
  pub counts : number ≡ length before + 1
  pub config : Config
  pub entries : List Tree
  pub trace : Trace
  pub marks : List Mark
  pub legal : IsLegalProcessRun g HasFewNodes start before config entries trace marks
  pub refused : IsRefused g config entries line fault
  pub cause : ¬ (fault ≡ Mem)
