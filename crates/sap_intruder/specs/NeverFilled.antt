-- The first step of a short run that is refused is the first that no lines `pub` and `app` make possible.
use Rattle.std.specs.Prelude.{◌≡◌, ◌↔◌, ℕ, ◌+◌, List, [], ◌∷◌, ◌++◌, length, All}
use Rattle.sap_terms.specs.Signature.{Sig, HoldsBuiltins}
use Rattle.sap_terms.specs.Trace.{Trace}
use Rattle.sap_terms.specs.Tree.{Tree}
use Rattle.sap_process.specs.Configuration.{Config}
use Rattle.sap_process.specs.Proc.{Proc}
use Rattle.sap_process.specs.Ready.{IsReady}
use Rattle.sap_runs.specs.Limits.{HasFewNodes}
use Rattle.sap_runs.specs.Marks.{Mark}
use Rattle.sap_runs.specs.Short.{IsShortStep}
use Rattle.sap_runs.specs.declared.process_step.PStep.{PStep}
use Rattle.sap_runs.specs.declared.short_step.SStep.{SStep}
use Rattle.sap_intruder.specs.FilledRuns.{IsFilledRun}
use Rattle.sap_intruder.specs.OneAnswer.{IsFirstRefusedOfShort}
use Rattle.sap_intruder.specs.declared.fill_fault.FillFault.{FillFault}

-- some run fills these steps within the limit
abbrev pub CanBeFilled : Sig → Proc → List SStep → Type 0
CanBeFilled g p ss =
    (lines : List PStep) × (c : Config) × (es : List Tree) × (tr : Trace) × (marks : List Mark)
    × IsFilledRun g HasFewNodes p ss lines c es tr marks

-- the steps before the one with this number, from 1, are filled by some run, and with it they are by none
pub record IsFirstUnfilled (g : Sig) (p : Proc) (run : List SStep) (number : ℕ) : Type 0 where
  pub before : List SStep
  pub step : SStep
  pub after : List SStep
  pub cut : run ≡ before ++ step ∷ after
  pub counts : number ≡ length before + 1
  pub filled : CanBeFilled g p before
  pub never : ¬ CanBeFilled g p (before ++ step ∷ [])

-- of a ready process the first step that is refused, for whatever cause, is that step
abbrev pub RefusedStepsCannotBeFilled : Type 0
RefusedStepsCannotBeFilled =
    (g : Sig) (p : Proc) (ss : List SStep) (number : ℕ) → HoldsBuiltins g → IsReady g p
    → All IsShortStep ss
    → ((fault : FillFault) × IsFirstRefusedOfShort g p ss number fault)
    ↔ IsFirstUnfilled g p ss number
