-- Written runs of rules, and the runs that they are.
use Rattle.std.specs.Prelude.{List, [], ◌∷◌, ◌++◌}
use Rattle.sap_terms.specs.Signature.{Sig}
use Rattle.sap_terms.specs.Trace.{Trace}
use Rattle.sap_terms.specs.Tree.{Tree}
use Rattle.sap_terms.specs.declared.fact.Fact.{Fact}
use Rattle.sap_rule.specs.Named.{HaveNamesOfTheirOwn}
use Rattle.sap_rule.specs.RuleSteps.{RuleState, empty_state, RuleStep, RuleRun}
use Rattle.sap_rule.specs.declared.rule.Rule.{Rule}
use Rattle.sap_runs.specs.declared.rule_step.RStep.{RStep}
use Rattle.sap_steps.specs.Lines.{IsLine, AnySize, HasFewNodes}

-- each of these lines in turn is possible, from the empty state on, where each normal form that is evaluated is as W says; the
-- last leads to this state, and this is the full trace
pub data IsLegalRun (g : Sig) (rules : List Rule) (W : Tree → Type 0)
    : List RStep → RuleState → Trace → Type 0 where
  starts : IsLegalRun g rules W [] empty_state []
  further : {lines : List RStep} {s z : RuleState} {full : Trace} (line : RStep) (acts : List Fact)
      → IsLegalRun g rules W lines s full → IsLine g rules W s line acts z
      → IsLegalRun g rules W (lines ++ line ∷ []) z (full ++ acts ∷ [])

-- a line that is possible is a step
abbrev pub LinesAreSteps : (Tree → Type 0) → Type 0
LinesAreSteps W = (g : Sig) (rules : List Rule) (s z : RuleState) (acts : List Fact) (line : RStep)
    → IsLine g rules W s line acts z → RuleStep g rules s acts z

-- each step of rules with names of their own has a line
abbrev pub StepsHaveLines : Type 0
StepsHaveLines =
    (g : Sig) (rules : List Rule) (s z : RuleState) (acts : List Fact) → HaveNamesOfTheirOwn rules
    → RuleStep g rules s acts z → (line : RStep) × IsLine g rules AnySize s line acts z

-- what legal lines lead to and show, a run leads to and shows
abbrev pub LinesAreRuns : (Tree → Type 0) → Type 0
LinesAreRuns W = (g : Sig) (rules : List Rule) (lines : List RStep) (s : RuleState) (full : Trace)
    → IsLegalRun g rules W lines s full → RuleRun g rules s full

-- each run of rules with names of their own can be written: some lines are legal, lead to the same state and show the same
abbrev pub RunsCanBeWritten : Type 0
RunsCanBeWritten =
    (g : Sig) (rules : List Rule) (s : RuleState) (full : Trace) → HaveNamesOfTheirOwn rules
    → RuleRun g rules s full → (lines : List RStep) × IsLegalRun g rules AnySize lines s full

-- a line that is possible within the limit is possible
abbrev pub SmallLinesAreLines : Type 0
SmallLinesAreLines =
    (g : Sig) (rules : List Rule) (s z : RuleState) (acts : List Fact) (line : RStep)
    → IsLine g rules HasFewNodes s line acts z → IsLine g rules AnySize s line acts z

-- so what is legal within it is legal
abbrev pub SmallRunsAreLegal : Type 0
SmallRunsAreLegal =
    (g : Sig) (rules : List Rule) (lines : List RStep) (s : RuleState) (full : Trace)
    → IsLegalRun g rules HasFewNodes lines s full → IsLegalRun g rules AnySize lines s full
