-- Which line of a run of rules each line of the process was written for that stands opposite to it in turn.
use Rattle.std.specs.Prelude.{ℕ, ◌+◌, List, [], ◌∷◌, ◌++◌, if◌then◌else◌, map}
use Rattle.sap_opposite.specs.Steps.{is_know}
use Rattle.sap_process_lines.specs.Tables.{ProcessTables}
use Rattle.sap_rule.specs.declared.rule.Rule.{Rule}
use Rattle.sap_runs.specs.declared.process_step.PStep.{PStep}
use Rattle.sap_runs.specs.declared.rule_step.RStep.{RStep}
use Rattle.sap_runs.specs.declared.rule_step.RStep.TheVariants.{Know}
use Rattle.sap_terms.specs.Trace.{Trace}
use Rattle.sap_back.specs.LinesFor.{AreProcessLinesForAll, no_lines, more, ProcessLinesStandInTurn, pending_lines}

-- the line of rules that gave the last entry, behind one more, which has this number
abbrev pub given_behind : (given number : ℕ) → RStep → ℕ
given_behind given number (Know k) = number
given_behind given number other = given

-- and behind all of these
abbrev pub last_given : (given number : ℕ) → List RStep → ℕ
last_given given number [] = given
last_given given number (step ∷ steps) = last_given (given_behind given number step) (number + 1) steps

-- a line of the process that stands opposite to the line of rules with this number was written for that; a `know`, which shows the entry
-- that was given last, for the line that gave it
abbrev pub written_for : (given number : ℕ) → PStep → ℕ
written_for given number step = if is_know step then given else number

-- for each line in turn, where the first line of rules has this number
abbrev pub steps_of_each : {rules : List Rule} {tables last : ProcessTables} {rule_lines : List RStep} {full : Trace} {lines : List PStep}
    → AreProcessLinesForAll rules tables rule_lines full lines last → (given number : ℕ) → List ℕ
steps_of_each no_lines given number = []
steps_of_each (more {step = step} {own = own} here rest) given number =
    map (written_for given number) own ++ steps_of_each rest (given_behind given number step) (number + 1)

-- for all lines that stand in turn, and what is shown behind the last, with the lines of rules numbered from 1
abbrev pub steps_in_turn : {rules : List Rule} {rule_lines : List RStep} {full : Trace} {lines : List PStep} → ProcessLinesStandInTurn rules rule_lines full lines → List ℕ
steps_in_turn {rule_lines = rule_lines} turns =
    steps_of_each turns.each 0 1 ++ map (written_for (last_given 0 1 rule_lines) 0) (pending_lines turns.last.pending)
