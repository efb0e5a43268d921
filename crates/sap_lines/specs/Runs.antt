-- Written runs of processes, and the runs that they are.
use Rattle.std.specs.Prelude.{◌≡◌, List, [], ◌∷◌, ◌++◌, Contains}
use Rattle.sap_terms.specs.Signature.{Sig}
use Rattle.sap_terms.specs.Trace.{Trace, shown}
use Rattle.sap_terms.specs.Tree.{Tree}
use Rattle.sap_terms.specs.declared.fact.Fact.{Fact}
use Rattle.sap_process.specs.Configuration.{Config, initial, CanGive}
use Rattle.sap_process.specs.Proc.{Proc}
use Rattle.sap_process.specs.ProcessSteps.{ProcessStep, ProcessRun}
use Rattle.sap_runs.specs.Inner.{InnerAction}
use Rattle.sap_runs.specs.Limits.{AnySize, HasFewNodes}
use Rattle.sap_runs.specs.Marks.{Mark, marks_of}
use Rattle.sap_runs.specs.declared.process_step.PStep.{PStep}
use Rattle.sap_runs.specs.declared.process_step.PStep.TheVariants as line
use Rattle.sap_lines.specs.Lines.{IsProcessLine}

-- Each of these lines in turn is possible, from the start of the process on, where each normal form that is evaluated is as W
-- says. The last leads to this configuration with these entries; the labels that aren't empty are this trace, and these are
-- the marks.
pub data IsLegalProcessRun (g : Sig) (W : Tree → Type 0) (p : Proc)
    : List PStep → Config → List Tree → Trace → List Mark → Type 0 where
  starts : IsLegalProcessRun g W p [] (initial p) [] [] []
  further : {lines : List PStep} {c d : Config} {es fs : List Tree} {tr : Trace} {marks : List Mark}
      (line : PStep) (inner : List InnerAction) (label : List Fact)
      → IsLegalProcessRun g W p lines c es tr marks → IsProcessLine g W c es line inner label d fs
      → IsLegalProcessRun g W p (lines ++ line ∷ []) d fs (tr ++ shown label)
      (marks ++ marks_of inner label)

-- what a line stands for: one that writes down a public name or applies a symbol changes and shows nothing, any other is a step
abbrev pub IsStepOf : Sig → Config → PStep → List Fact → Config → Type 0
IsStepOf g c (line.Public a) label d = (label ≡ []) × (d ≡ c)
IsStepOf g c (line.Apply f ks) label d = (label ≡ []) × (d ≡ c)
IsStepOf g c step label d = ProcessStep g c label d

-- the adversary can give each entry
abbrev pub CanGiveEach : Sig → Config → List Tree → Type 0
CanGiveEach g c es = (x : Tree) → Contains es x → CanGive g c x

-- where the adversary can give each entry, a line that is possible is what it stands for, and it can give each entry behind it
abbrev pub ProcessLinesAreSteps : (Tree → Type 0) → Type 0
ProcessLinesAreSteps W =
    (g : Sig) (c d : Config) (es fs : List Tree) (step : PStep) (inner : List InnerAction)
    (label : List Fact) → CanGiveEach g c es → IsProcessLine g W c es step inner label d fs
    → IsStepOf g c step label d × CanGiveEach g d fs

-- what legal lines lead to and show, a run leads to and shows, and the adversary can give each entry
abbrev pub ProcessLinesAreRuns : (Tree → Type 0) → Type 0
ProcessLinesAreRuns W =
    (g : Sig) (p : Proc) (lines : List PStep) (c : Config) (es : List Tree) (tr : Trace)
    (marks : List Mark) → IsLegalProcessRun g W p lines c es tr marks
    → ProcessRun g (initial p) c tr × CanGiveEach g c es

-- each run of a process can be written: some lines are legal, lead to the same configuration and show the same
abbrev pub ProcessRunsCanBeWritten : Type 0
ProcessRunsCanBeWritten =
    (g : Sig) (p : Proc) (c : Config) (tr : Trace) → ProcessRun g (initial p) c tr
    → (lines : List PStep) × (es : List Tree) × (marks : List Mark)
    × IsLegalProcessRun g AnySize p lines c es tr marks

-- a term that the adversary can give behind a run can be entered: some lines are legal, lead to the same configuration, show the
-- same, and have it among the entries
abbrev pub GivenTermsCanBeEntered : Type 0
GivenTermsCanBeEntered =
    (g : Sig) (p : Proc) (c : Config) (tr : Trace) (x : Tree) → ProcessRun g (initial p) c tr
    → CanGive g c x → (lines : List PStep) × (es : List Tree) × (marks : List Mark)
    × IsLegalProcessRun g AnySize p lines c es tr marks × Contains es x

-- a line that is possible within the limit is possible
abbrev pub SmallProcessLinesAreLines : Type 0
SmallProcessLinesAreLines =
    (g : Sig) (c d : Config) (es fs : List Tree) (step : PStep) (inner : List InnerAction)
    (label : List Fact) → IsProcessLine g HasFewNodes c es step inner label d fs
    → IsProcessLine g AnySize c es step inner label d fs

-- so what is legal within it is legal
abbrev pub SmallProcessRunsAreLegal : Type 0
SmallProcessRunsAreLegal =
    (g : Sig) (p : Proc) (lines : List PStep) (c : Config) (es : List Tree) (tr : Trace)
    (marks : List Mark) → IsLegalProcessRun g HasFewNodes p lines c es tr marks
    → IsLegalProcessRun g AnySize p lines c es tr marks
