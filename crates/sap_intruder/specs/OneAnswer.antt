-- A step of a short run is possible, or refused for one cause; and a short run is legal, or one step of it
-- is the first that is refused.
use Rattle.std.specs.Prelude.{◌≡◌, ℕ, ◌+◌, List, [], ◌∷◌, ◌++◌, length}
use Rattle.sap_terms.specs.Signature.{Sig, HoldsBuiltins}
use Rattle.sap_terms.specs.Trace.{Trace}
use Rattle.sap_terms.specs.declared.fact.Fact.{Fact}
use Rattle.sap_process.specs.Configuration.{Config}
use Rattle.sap_process.specs.Proc.{Proc}
use Rattle.sap_process.specs.Ready.{IsReady}
use Rattle.sap_runs.specs.Inner.{InnerAction}
use Rattle.sap_runs.specs.Limits.{HasFewNodes}
use Rattle.sap_runs.specs.Marks.{Mark}
use Rattle.sap_runs.specs.declared.short_step.SStep.{SStep}
use Rattle.sap_lines.specs.Answers.{MatchesExactly}
use Rattle.sap_intruder.specs.Refusals.{IsShortRefused}
use Rattle.sap_intruder.specs.ShortLines.{IsShortLine}
use Rattle.sap_intruder.specs.ShortRuns.{IsLegalShortRun}
use Rattle.sap_intruder.specs.declared.fill_fault.FillFault.{FillFault}

-- two causes for which a step is refused are one
abbrev pub ShortRefusalsAreOne : Type 0
ShortRefusalsAreOne =
    (g : Sig) (c : Config) (s : SStep) (e f : FillFault) → IsShortRefused g c s e
    → IsShortRefused g c s f → e ≡ f

-- a step that is possible within the limit isn't refused
abbrev pub ShortLinesAreNotRefused : Type 0
ShortLinesAreNotRefused =
    (g : Sig) (c d : Config) (s : SStep) (inner : List InnerAction) (label : List Fact)
    (e : FillFault) → MatchesExactly g c [] → IsShortLine g HasFewNodes c s inner label d
    → IsShortRefused g c s e → ⊥

-- the steps before the one with this number, from 1, are a legal short run within the limit, and that one
-- is refused for this cause
pub record IsFirstRefusedOfShort (g : Sig) (start : Proc) (run : List SStep) (number : ℕ)
    (fault : FillFault) : Type 0 where
  pub before : List SStep
  pub step : SStep
  pub after : List SStep
  pub cut : run ≡ before ++ step ∷ after
  pub counts : number ≡ length before + 1
  pub config : Config
  pub trace : Trace
  pub marks : List Mark
  pub legal : IsLegalShortRun g HasFewNodes start before config trace marks
  pub refused : IsShortRefused g config step fault

-- what two legal runs of the same steps have in common
pub record AreOneShortRun (c d : Config) (tr other : Trace) (ms more : List Mark) : Type 0 where
  pub configurations : c ≡ d
  pub traces : tr ≡ other
  pub marks : ms ≡ more

-- of a ready process, a legal short run leads to one configuration, with one trace and the same marks
abbrev pub ShortRunsHaveOneEnd : Type 0
ShortRunsHaveOneEnd =
    (g : Sig) (p : Proc) (ss : List SStep) (c d : Config) (tr other : Trace) (ms more : List Mark)
    → HoldsBuiltins g → IsReady g p → IsLegalShortRun g HasFewNodes p ss c tr ms
    → IsLegalShortRun g HasFewNodes p ss d other more → AreOneShortRun c d tr other ms more

-- one that is legal has no first refused step
abbrev pub LegalShortRunsAreNotRefused : Type 0
LegalShortRunsAreNotRefused =
    (g : Sig) (p : Proc) (ss : List SStep) (c : Config) (tr : Trace) (ms : List Mark) (number : ℕ)
    (fault : FillFault) → HoldsBuiltins g → IsReady g p
    → IsLegalShortRun g HasFewNodes p ss c tr ms → IsFirstRefusedOfShort g p ss number fault → ⊥

-- and one that isn't has one at most, for one cause
abbrev pub FirstShortRefusalsAreOne : Type 0
FirstShortRefusalsAreOne =
    (g : Sig) (p : Proc) (ss : List SStep) (number other : ℕ) (fault reason : FillFault)
    → HoldsBuiltins g → IsReady g p → IsFirstRefusedOfShort g p ss number fault
    → IsFirstRefusedOfShort g p ss other reason → (number ≡ other) × (fault ≡ reason)
