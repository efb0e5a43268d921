-- Where a run of rules stands that is replayed within the restrictions, and what a line does to it.
use Rattle.std.specs.Prelude.{◌≡◌, ℕ, List, [], ◌∷◌, ◌++◌, ⊤}
use Rattle.sap_terms.specs.Message.{AreMessageFacts, IsMessageTrace}
use Rattle.sap_terms.specs.Signature.{Sig}
use Rattle.sap_terms.specs.Trace.{Trace}
use Rattle.sap_terms.specs.declared.fact.Fact.{Fact}
use Rattle.sap_process.specs.Proc.{Proc}
use Rattle.sap_restrict.specs.Answer.{IsOnlyFalse}
use Rattle.sap_restrict.specs.Stands.{HasOneReserved, Machine, KeepsTrace}
use Rattle.sap_restrict.specs.declared.which.Which.{Which}
use Rattle.sap_rule.specs.RuleSteps.{RuleState}
use Rattle.sap_rule.specs.declared.rule.Rule.{Rule}
use Rattle.sap_runs.specs.Limits.{HasFewNodes}
use Rattle.sap_runs.specs.declared.rule_step.RStep.{RStep}
use Rattle.sap_steps.specs.Faults.{IsLineFault}
use Rattle.sap_steps.specs.Lines.{IsLine}
use Rattle.sap_steps.specs.State.{State}
use Rattle.sap_steps.specs.declared.fault.RFault.{RFault}
use Rattle.sap_steps.specs.declared.fault.RFault.TheVariants.{Mem}
use Rattle.sap_templates.specs.Templates.{rules_of}
use Rattle.sap_back.specs.Converted.{IsAdmittedRun}
use Rattle.sap_back.specs.declared.back_at.BackAt.{BackAt}
use Rattle.sap_back.specs.declared.back_at.BackAt.TheVariants.{Mem as OutOfMemory, Step as StepOf, Broken as BrokenAt}

-- of what a line of these rules shows, one fact has a reserved name, or none
abbrev pub ShowOneReserved : Sig → List Rule → Type 0
ShowOneReserved g rules = (s z : RuleState) (line : RStep) (acts : List Fact) → IsLine g rules HasFewNodes s line acts z → HasOneReserved acts

-- these lines lead to the state of the rules of the process, and the guard stands for their full trace, which counts
pub record IsReplayed (g : Sig) (start : Proc) (s : State) (m : Machine) (before : List RStep) (full : Trace) : Type 0 where
  pub sig : s.sig ≡ g
  pub rules : s.rules ≡ rules_of start
  pub counted : IsAdmittedRun g start before s.at full
  pub messages : IsMessageTrace g full
  pub guarded : KeepsTrace m full

-- the line leads from one state to the other and shows these facts; a guard that kept the one keeps the other behind it
pub record IsTakenUp (old new : State) (m n : Machine) (line : RStep) (acts : List Fact) : Type 0 where
  pub sig : new.sig ≡ old.sig
  pub rules : new.rules ≡ old.rules
  pub possible : IsLine old.sig old.rules HasFewNodes old.at line acts new.at
  pub messages : AreMessageFacts old.sig acts
  pub guarded : (tr : Trace) → KeepsTrace m tr → KeepsTrace n (tr ++ acts ∷ [])

-- the line, which has this number, is refused for this cause
pub record IsRefusedLine (old : State) (line : RStep) (number step : ℕ) (fault : RFault) : Type 0 where
  pub counts : step ≡ number
  pub refused : IsLineFault old.sig old.rules old.at line fault
  pub cause : ¬ (fault ≡ Mem)

-- the line, which has this number, is possible, and this restriction is false behind it, and no other
pub record IsBrokenLine (old : State) (m : Machine) (line : RStep) (number step : ℕ) (which : Which) : Type 0 where
  pub counts : step ≡ number
  pub acts : List Fact
  pub next : RuleState
  pub possible : IsLine old.sig old.rules HasFewNodes old.at line acts next
  pub messages : AreMessageFacts old.sig acts
  pub broken : (g : Sig) (tr : Trace) → KeepsTrace m tr → IsMessageTrace g (tr ++ acts ∷ []) → IsOnlyFalse g (tr ++ acts ∷ []) which

-- why the line isn't taken up
abbrev pub IsStopped : State → Machine → RStep → ℕ → BackAt → Type 0
IsStopped old m line number OutOfMemory = ⊤
IsStopped old m line number (StepOf step fault) = IsRefusedLine old line number step fault
IsStopped old m line number (BrokenAt step which) = IsBrokenLine old m line number step which

-- a guard that kept the one keeps the other behind a time with these facts, which are those that are given
pub record IsKept (acts given : List Fact) (m n : Machine) : Type 0 where
  pub same : given ≡ acts
  pub guarded : (tr : Trace) → KeepsTrace m tr → KeepsTrace n (tr ++ acts ∷ [])

-- this restriction is false behind a time with these facts, and no other; the line has this number
pub record IsUnkeptTime (acts : List Fact) (m : Machine) (number step : ℕ) (which : Which) : Type 0 where
  pub counts : step ≡ number
  pub broken : (g : Sig) (tr : Trace) → KeepsTrace m tr → IsMessageTrace g (tr ++ acts ∷ []) → IsOnlyFalse g (tr ++ acts ∷ []) which

-- why a time with these facts isn't kept
abbrev pub IsUnkept : List Fact → Machine → ℕ → BackAt → Type 0
IsUnkept acts m number OutOfMemory = ⊤
IsUnkept acts m number (StepOf step fault) = ⊥
IsUnkept acts m number (BrokenAt step which) = IsUnkeptTime acts m number step which

-- where the line with this number stops for the cause
abbrev pub stop_at : ℕ → RFault → BackAt
stop_at number Mem = OutOfMemory
stop_at number fault = StepOf number fault
