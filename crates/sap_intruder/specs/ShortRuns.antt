-- Short runs of a process.
use Rattle.std.specs.Prelude.{List, [], ◌∷◌, ◌++◌}
use Rattle.sap_terms.specs.Signature.{Sig}
use Rattle.sap_terms.specs.Trace.{Trace, shown}
use Rattle.sap_terms.specs.Tree.{Tree}
use Rattle.sap_terms.specs.declared.fact.Fact.{Fact}
use Rattle.sap_process.specs.Configuration.{Config, initial}
use Rattle.sap_process.specs.Proc.{Proc}
use Rattle.sap_process.specs.ProcessSteps.{ProcessRun}
use Rattle.sap_runs.specs.Inner.{InnerAction}
use Rattle.sap_runs.specs.Marks.{Mark, marks_of}
use Rattle.sap_runs.specs.declared.short_step.SStep.{SStep}
use Rattle.sap_intruder.specs.ShortLines.{IsShortLine}

-- Each of these steps in turn is possible, from the start of the process on, where each normal form that
-- is evaluated is as W says. The last leads to this configuration; the labels that aren't empty are this
-- trace, and these are the marks.
pub data IsLegalShortRun (g : Sig) (W : Tree → Type 0) (p : Proc)
    : List SStep → Config → Trace → List Mark → Type 0 where
  starts : IsLegalShortRun g W p [] (initial p) [] []
  further : {ss : List SStep} {c d : Config} {tr : Trace} {marks : List Mark} (s : SStep)
      (inner : List InnerAction) (label : List Fact) → IsLegalShortRun g W p ss c tr marks
      → IsShortLine g W c s inner label d
      → IsLegalShortRun g W p (ss ++ s ∷ []) d (tr ++ shown label) (marks ++ marks_of inner label)

-- what a legal short run leads to and shows, a run of the process leads to and shows
abbrev pub ShortRunsAreRuns : (Tree → Type 0) → Type 0
ShortRunsAreRuns W =
    (g : Sig) (p : Proc) (ss : List SStep) (c : Config) (tr : Trace) (marks : List Mark)
    → IsLegalShortRun g W p ss c tr marks → ProcessRun g (initial p) c tr
