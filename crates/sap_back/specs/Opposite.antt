-- What a written run of a process opposite to a run of its rules is.
use Rattle.std.specs.Prelude.{◌≤◌, List, length, Contains}
use Rattle.sap_terms.specs.Signature.{Sig}
use Rattle.sap_terms.specs.Trace.{Trace}
use Rattle.sap_terms.specs.Tree.{Tree}
use Rattle.sap_formula.specs.Hide.{hide}
use Rattle.sap_process.specs.Configuration.{Config}
use Rattle.sap_process.specs.Proc.{Proc}
use Rattle.sap_restrict.specs.Standard.{IsAdmitted}
use Rattle.sap_rule.specs.RuleSteps.{RuleState}
use Rattle.sap_runs.specs.Limits.{HasFewNodes}
use Rattle.sap_runs.specs.declared.process_step.PStep.{PStep}
use Rattle.sap_runs.specs.declared.rule_step.RStep.{RStep}
use Rattle.sap_lines.specs.Runs.{IsLegalProcessRun}
use Rattle.sap_steps.specs.Marks.{marks}
use Rattle.sap_steps.specs.Runs.{IsLegalRun}
use Rattle.sap_templates.specs.Templates.{rules_of}

-- These lines of the process are opposite to the lines of its rules, which lead to the state and have the full trace.
pub record IsOppositeProcessRun (g : Sig) (start : Proc) (rule_lines : List RStep) (s : RuleState)
    (full : Trace) (lines : List PStep) : Type 0 where
  pub config : Config
  pub entries : List Tree
  -- they are legal within the limit, show what is seen of the full trace, and have its marks
  pub legal : IsLegalProcessRun g HasFewNodes start lines config entries (hide full) (marks full)
  -- the adversary knows all that it knows there
  pub known : (t : Tree) → Contains s.known t → Contains entries t
  -- there are no more of them
  pub short : length lines ≤ length rule_lines

-- each legal run of the rules whose full trace is admitted has lines of the process opposite
abbrev pub HasOppositeProcessRuns : Sig → Proc → Type 0
HasOppositeProcessRuns g start =
    (rule_lines : List RStep) (s : RuleState) (full : Trace)
    → IsLegalRun g (rules_of start) HasFewNodes rule_lines s full → IsAdmitted g full
    → (lines : List PStep) × IsOppositeProcessRun g start rule_lines s full lines
