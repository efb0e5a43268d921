-- Runs of a theory's rules, replayed step by step.
use Rattle.std.specs.Prelude.{◌≡◌, ◌+◌, ◌-◌, ◌^◌, ◌++◌, ◌∷◌, [], ℕ, List, min}
use Rattle.sap_rule.specs.RuleSteps.{RuleState}
use Rattle.sap_rule.specs.declared.theory.Theory.{Theory}
use Rattle.sap_runs.specs.Limits.{HasFewNodes}
use Rattle.sap_runs.specs.declared.rule_step.RStep.{RStep}
use Rattle.sap_steps.specs.Faults.{IsLineFault}
use Rattle.sap_steps.specs.Lines.{IsLine}
use Rattle.sap_steps.specs.Runs.{IsLegalRun}
use Rattle.sap_steps.specs.State.{State}
use Rattle.sap_steps.specs.declared.fault.RFault.{RFault}
use Rattle.sap_steps.specs.declared.fault.RFault.TheVariants as fault
use Rattle.sap_terms.specs.Message.{AreMessageFacts, IsMessageTrace}
use Rattle.sap_terms.specs.Trace.{Trace}
use Rattle.sap_terms.specs.declared.fact.Fact.{Fact}
use Rattle.sap_replay.specs.RunRefusals.{IsFirstRefusedOfTheory}
use Rattle.sap_replay.specs.declared.checking.Stop.{Stop}
use Rattle.sap_replay.specs.declared.checking.Stop.TheVariants as stop

-- the lines are legal, with this full trace, which is one of messages
pub record IsLegalTrace (t : Theory) (lines : List RStep) (full : Trace) : Type 0 where
  pub state : RuleState
  pub legal : IsLegalRun t.signature t.rules HasFewNodes lines state full
  pub messages : IsMessageTrace t.signature full

-- the line is possible, and what it shows comes last
pub record Advances (old : State) (line : RStep) (before : Trace) (new : State) (after : Trace) : Type 0 where
  pub acts : List Fact
  pub possible : IsLine old.sig old.rules HasFewNodes old.at line acts new.at
  pub shows : after ≡ before ++ acts ∷ []
  pub messages : AreMessageFacts old.sig acts

-- the step with this index, from 0, is refused for this cause
abbrev pub IsStopFor : ℕ → RFault → Stop → Type 0
IsStopFor k e stop.Mem = Unit {0}
IsStopFor k e (stop.Step step f) = (step ≡ min (k + 1) (2 ^ 64 - 1)) × (f ≡ e) × ¬ (e ≡ fault.Mem)

-- the line is refused there
abbrev pub IsRefusedAt : State → ℕ → RStep → Stop → Type 0
IsRefusedAt s k line stop.Mem = Unit {0}
IsRefusedAt s k line (stop.Step step e) = (step ≡ min (k + 1) (2 ^ 64 - 1)) × IsLineFault s.sig s.rules s.at line e × ¬ (e ≡ fault.Mem)

-- it is the first that is refused
abbrev pub IsStopped : Theory → List RStep → Stop → Type 0
IsStopped t lines stop.Mem = Unit {0}
IsStopped t lines (stop.Step step e) = IsFirstRefusedOfTheory t lines step e
