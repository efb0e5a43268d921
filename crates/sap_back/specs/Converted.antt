-- What the conversion of a written run of rules answers.
use Rattle.std.specs.Prelude.{◌≡◌, ◌+◌, ℕ, List, [], ◌∷◌, ◌++◌, length}
use Rattle.sap_terms.specs.Signature.{Sig}
use Rattle.sap_terms.specs.Trace.{Trace}
use Rattle.sap_terms.specs.declared.fact.Fact.{Fact}
use Rattle.sap_process.specs.Proc.{Proc}
use Rattle.sap_restrict.specs.Answer.{IsOnlyFalse}
use Rattle.sap_restrict.specs.Standard.{IsAdmitted}
use Rattle.sap_restrict.specs.declared.which.Which.{Which}
use Rattle.sap_rule.specs.RuleSteps.{RuleState}
use Rattle.sap_runs.specs.Limits.{HasFewNodes}
use Rattle.sap_runs.specs.declared.process_step.PStep.{PStep}
use Rattle.sap_runs.specs.declared.rule_step.RStep.{RStep}
use Rattle.sap_steps.specs.Faults.{IsLineFault}
use Rattle.sap_steps.specs.Lines.{IsLine}
use Rattle.sap_steps.specs.Runs.{IsLegalRun}
use Rattle.sap_steps.specs.declared.fault.RFault.{RFault}
use Rattle.sap_steps.specs.declared.fault.RFault.TheVariants.{Mem}
use Rattle.sap_templates.specs.Templates.{rules_of}
use Rattle.sap_translate.specs.LineCounts.{back_count}
use Rattle.sap_back.specs.LinesFor.{ProcessLinesStandInTurn}
use Rattle.sap_back.specs.Opposite.{IsOppositeProcessRun}

-- the lines are a legal run of the rules of the process within the limit, which leads to the state, and its full trace is admitted
pub record IsAdmittedRun (g : Sig) (start : Proc) (rule_lines : List RStep) (s : RuleState)
    (full : Trace) : Type 0 where
  pub legal : IsLegalRun g (rules_of start) HasFewNodes rule_lines s full
  pub admitted : IsAdmitted g full

-- the lines are such a run, and these of the process are opposite to them
pub record IsConvertedToProcess (g : Sig) (start : Proc) (rule_lines : List RStep)
    (lines : List PStep) : Type 0 where
  pub state : RuleState
  pub full : Trace
  pub counted : IsAdmittedRun g start rule_lines state full
  pub opposite : IsOppositeProcessRun g start rule_lines state full lines
  -- there are exactly so many
  pub count : length lines ≡ back_count rule_lines
  -- they stand in turn, each with its numbers, as at most one run of the process does
  pub turns : ProcessLinesStandInTurn (rules_of start) rule_lines full lines

-- the lines before the one with this number, from 1, are such a run, and that one is refused for this cause
pub record IsFirstRefusedOfRules (g : Sig) (start : Proc) (rule_lines : List RStep) (number : ℕ)
    (fault : RFault) : Type 0 where
  pub before : List RStep
  pub line : RStep
  pub after : List RStep
  pub cut : rule_lines ≡ before ++ line ∷ after
  pub counts : number ≡ length before + 1
  pub state : RuleState
  pub full : Trace
  pub counted : IsAdmittedRun g start before state full
  pub refused : IsLineFault g (rules_of start) state line fault
  pub cause : ¬ (fault ≡ Mem)

-- the lines before the one with this number, from 1, are such a run, that one is possible, and behind it this restriction is false
-- on the full trace, and no other
pub record IsFirstBroken (g : Sig) (start : Proc) (rule_lines : List RStep) (number : ℕ)
    (which : Which) : Type 0 where
  pub before : List RStep
  pub line : RStep
  pub after : List RStep
  pub cut : rule_lines ≡ before ++ line ∷ after
  pub counts : number ≡ length before + 1
  pub state : RuleState
  pub full : Trace
  pub counted : IsAdmittedRun g start before state full
  pub acts : List Fact
  pub next : RuleState
  pub possible : IsLine g (rules_of start) HasFewNodes state line acts next
  pub broken : IsOnlyFalse g (full ++ acts ∷ []) which
