-- A step of a short run is possible or refused; and a short run is legal, or a step of it is the
-- first that is refused.
use Rattle.std.specs.Prelude.{◌⊎◌, ℕ, List, [], All}
use Rattle.sap_terms.specs.Equations.{equations}
use Rattle.sap_terms.specs.Normal.{IsNormal}
use Rattle.sap_terms.specs.Signature.{Sig, HoldsBuiltins}
use Rattle.sap_terms.specs.Trace.{Trace}
use Rattle.sap_terms.specs.declared.fact.Fact.{Fact}
use Rattle.sap_process.specs.Configuration.{Config}
use Rattle.sap_process.specs.Proc.{Proc}
use Rattle.sap_process.specs.Ready.{IsReady}
use Rattle.sap_runs.specs.Inner.{InnerAction}
use Rattle.sap_runs.specs.Limits.{HasFewNodes}
use Rattle.sap_runs.specs.Marks.{Mark}
use Rattle.sap_runs.specs.Short.{IsShortStep}
use Rattle.sap_runs.specs.declared.short_step.SStep.{SStep}
use Rattle.sap_lines.specs.Answers.{MatchesExactly}
use Rattle.sap_intruder.specs.OneAnswer.{IsFirstRefusedOfShort}
use Rattle.sap_intruder.specs.Refusals.{IsShortRefused}
use Rattle.sap_intruder.specs.ShortLines.{IsShortLine}
use Rattle.sap_intruder.specs.ShortRuns.{IsLegalShortRun}
use Rattle.sap_intruder.specs.declared.fill_fault.FillFault.{FillFault}

-- the step is possible within the limit, or refused
abbrev pub IsAnswered : Sig → Config → SStep → Type 0
IsAnswered g c s =
    ((inner : List InnerAction) × (label : List Fact) × (d : Config)
    × IsShortLine g HasFewNodes c s inner label d) ⊎ ((e : FillFault) × IsShortRefused g c s e)

-- where what lines match is matched exactly and what was sent is normal, each step is
abbrev pub ShortLinesHaveSomeAnswer : Type 0
ShortLinesHaveSomeAnswer =
    (g : Sig) (c : Config) (s : SStep) → HoldsBuiltins g → MatchesExactly g c []
    → All (IsNormal (equations g)) c.frame → IsShortStep s → IsAnswered g c s

-- a short run of a ready process is legal within the limit, or some step of it is the first that is
-- refused
abbrev pub ShortRunsHaveSomeAnswer : Type 0
ShortRunsHaveSomeAnswer =
    (g : Sig) (p : Proc) (ss : List SStep) → HoldsBuiltins g → IsReady g p → All IsShortStep ss
    → ((c : Config) × (tr : Trace) × (ms : List Mark) × IsLegalShortRun g HasFewNodes p ss c tr ms)
    ⊎ ((number : ℕ) × (fault : FillFault) × IsFirstRefusedOfShort g p ss number fault)
