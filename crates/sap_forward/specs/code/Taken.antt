-- What is done for one line of the process.
use Rattle.std.specs.Prelude.{◌≡◌, ◌+◌, ℕ, List, ◌++◌, Option, Some, MatchOption, slice_get, take}
use Rattle.sap_terms.specs.Trace.{Trace, shown}
use Rattle.sap_terms.specs.View.{tree}
use Rattle.sap_terms.specs.declared.fact.Fact.{Fact}
use Rattle.sap_terms.specs.declared.term.Term.{Term}
use Rattle.sap_runs.specs.declared.process_step.PStep.{PStep}
use Rattle.sap_runs.specs.declared.process_step.PStep.TheVariants.{Found}
use Rattle.sap_runs.specs.declared.rule_step.RStep.{RStep}
use Rattle.sap_lines.specs.declared.fault.PFault.{PFault}
use Rattle.sap_calc.specs.Replays.{AreDone}
use Rattle.sap_calc.specs.Running.{Running, IsDone, IsDeniedAt, WouldFind, FindsNothing}
use Rattle.sap_forward.specs.code.Desk.{WritesRules}
use Rattle.sap_forward.specs.declared.desk.Desk.{Desk}

-- what a line `found` would find
abbrev pub IsFoundBy : Running → PStep → Option Term → Type 0
IsFoundBy r step found = (t : ℕ) → step ≡ Found t → MatchOption found (FindsNothing r t) (λ v. WouldFind r t (tree v))

-- the line is done, and its label is put last unless it is empty
pub record IsShown (r z : Running) (step : PStep) (before after : Trace) : Type 0 where
  pub label : List Fact
  pub done : IsDone r z step label
  pub grows : after ≡ before ++ shown label

-- the lines before one of these are done in turn, from here on, and that one is refused for this cause
pub record AreDoneUntil (r : Running) (run : List PStep) (n : ℕ) (fault : PFault) : Type 0 where
  pub before : ℕ
  pub line : PStep
  pub there : slice_get run before ≡ Some line
  pub behind : Running
  pub trace : Trace
  pub done : AreDone r (take before run) behind trace
  pub refused : IsDeniedAt behind line (before + 1) n fault

-- the line is done, and the desk writes what it writes for it
pub record IsTaken (r z : Running) (d e : Desk) (step : PStep) (before after : List RStep) : Type 0 where
  pub label : List Fact
  pub done : IsDone r z step label
  pub found : Option Term
  pub finds : IsFoundBy r step found
  pub writes : WritesRules d e step found before after
