-- The conversion of a run of rules has one answer.
use Rattle.std.specs.Prelude.{◌≡◌, ◌⊎◌, ℕ, List}
use Rattle.sap_terms.specs.Signature.{Sig}
use Rattle.sap_terms.specs.Trace.{Trace}
use Rattle.sap_process.specs.Proc.{Proc}
use Rattle.sap_restrict.specs.declared.which.Which.{Which}
use Rattle.sap_rule.specs.RuleSteps.{RuleState}
use Rattle.sap_runs.specs.declared.rule_step.RStep.{RStep}
use Rattle.sap_steps.specs.declared.fault.RFault.{RFault}
use Rattle.sap_back.specs.Converted.{IsAdmittedRun, IsFirstBroken, IsFirstRefusedOfRules}

-- the lines are a run that counts, or one of them is the first that is refused, or one of them is the first behind which a restriction is
-- false
abbrev pub IsAdmittedRefusedOrBroken : Sig → Proc → List RStep → Type 0
IsAdmittedRefusedOrBroken g start rule_lines =
    ((s : RuleState) × (full : Trace) × IsAdmittedRun g start rule_lines s full)
    ⊎ (((number : ℕ) × (fault : RFault) × IsFirstRefusedOfRules g start rule_lines number fault) ⊎ ((number : ℕ) × (which : Which) × IsFirstBroken g start rule_lines number which))

-- one of these holds, no two do, and it holds in one way
pub record HaveOneAnswer (g : Sig) (start : Proc) (rule_lines : List RStep) : Type 0 where
  pub some : IsAdmittedRefusedOrBroken g start rule_lines
  pub one_run : (s z : RuleState) (full tr : Trace) → IsAdmittedRun g start rule_lines s full → IsAdmittedRun g start rule_lines z tr → (s ≡ z) × (full ≡ tr)
  pub counted_or_refused : (s : RuleState) (full : Trace) (number : ℕ) (fault : RFault) → IsAdmittedRun g start rule_lines s full → IsFirstRefusedOfRules g start rule_lines number fault → ⊥
  pub counted_or_broken : (s : RuleState) (full : Trace) (number : ℕ) (which : Which) → IsAdmittedRun g start rule_lines s full → IsFirstBroken g start rule_lines number which → ⊥
  pub refused_or_broken : (number other : ℕ) (fault : RFault) (which : Which) → IsFirstRefusedOfRules g start rule_lines number fault → IsFirstBroken g start rule_lines other which → ⊥
  pub one_refused : (number other : ℕ) (fault cause : RFault) → IsFirstRefusedOfRules g start rule_lines number fault → IsFirstRefusedOfRules g start rule_lines other cause → (number ≡ other) × (fault ≡ cause)
  pub one_broken : (number other : ℕ) (which second : Which) → IsFirstBroken g start rule_lines number which → IsFirstBroken g start rule_lines other second → (number ≡ other) × (which ≡ second)
