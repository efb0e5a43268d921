-- Why a run is refused.
use Rattle.std.specs.Prelude.{◌≡◌, ◌+◌, ℕ, List, ◌∷◌, ◌++◌, length, Ok, Err}
use Rattle.sap_back.specs.Converted as back
use Rattle.sap_lines.specs.FirstRefused.{IsFirstRefusedOfProcess}
use Rattle.sap_lines.specs.declared.fault.PFault.{PFault}
use Rattle.sap_read.specs.Files.{FileContent}
use Rattle.sap_restrict.specs.declared.which.Which.{Which}
use Rattle.sap_rule.specs.RuleSteps.{RuleState}
use Rattle.sap_rule.specs.declared.theory.Theory.{Theory}
use Rattle.sap_run_texts.specs.declared.run.Kinds.{Kinds}
use Rattle.sap_run_texts.specs.declared.run.Run.{Run}
use Rattle.sap_run_texts.specs.declared.run.Run.TheVariants as run
use Rattle.sap_runs.specs.Limits.{HasFewNodes}
use Rattle.sap_runs.specs.declared.process_step.PStep.{PStep}
use Rattle.sap_runs.specs.declared.rule_step.RStep.{RStep}
use Rattle.sap_steps.specs.Faults.{IsLineFault}
use Rattle.sap_steps.specs.Runs.{IsLegalRun}
use Rattle.sap_steps.specs.declared.fault.RFault.{RFault}
use Rattle.sap_steps.specs.declared.fault.RFault.TheVariants.{Mem}
use Rattle.sap_terms.specs.Trace.{Trace}
use Rattle.sap_outside.specs.declared.run_refusal.RunRefusal.{RunRefusal}
use Rattle.sap_refusals.specs.RunFaultTexts.{at_step, process_fault_text, rule_fault_text, broken_text, run_refusal_text, run_refused_line}
use Rattle.sap_outside.specs.RunPieces.{IsRunAnswer}

-- Of the lines of a run of the file this is the first that is illegal, for this cause: of a run of its process, one that is refused; of
-- one of its rules, one that is refused, or behind which one of the seven restrictions is false.
pub data IsIllegal (f : FileContent) : Run → List ℕ → Type 0 where
  of_process : {lines : List PStep} (number : ℕ) (e : PFault)
      → IsFirstRefusedOfProcess f.signature f.process lines number e
      → IsIllegal f (run.Process lines) (at_step number (process_fault_text e))
  of_rules : {lines : List RStep} (number : ℕ) (e : RFault)
      → back.IsFirstRefusedOfRules f.signature f.process lines number e
      → IsIllegal f (run.Rules lines) (at_step number (rule_fault_text e))
  breaks : {lines : List RStep} (number : ℕ) (which : Which)
      → back.IsFirstBroken f.signature f.process lines number which
      → IsIllegal f (run.Rules lines) (at_step number (broken_text which))

-- the lines before the one with this number, from 1, are a legal run of the theory's rules within the limit, and that one is refused for
-- this cause
pub record IsFirstRefusedOfTheory (t : Theory) (lines : List RStep) (number : ℕ)
    (e : RFault) : Type 0 where
  pub before : List RStep
  pub line : RStep
  pub after : List RStep
  pub cut : lines ≡ before ++ line ∷ after
  pub counts : number ≡ length before + 1
  pub state : RuleState
  pub full : Trace
  pub legal : IsLegalRun t.signature t.rules HasFewNodes before state full
  pub refused : IsLineFault t.signature t.rules state line e
  pub cause : ¬ (e ≡ Mem)

-- of the lines of a run of the theory's rules the first that is illegal is refused for this cause; restrictions refuse none
pub data IsIllegalOfTheory (t : Theory) : Run → List ℕ → Type 0 where
  of_theory : {lines : List RStep} (number : ℕ) (e : RFault)
      → IsFirstRefusedOfTheory t lines number e
      → IsIllegalOfTheory t (run.Rules lines) (at_step number (rule_fault_text e))

-- of no run a line is illegal, where neither a file nor a theory says what is
abbrev pub IsNeverIllegal : Run → List ℕ → Type 0
IsNeverIllegal r why = ⊥

-- the bytes are refused for this cause: they are no run of a kind that is asked for; else a line of the run is the first that is illegal
pub data IsRunRefusedWith (kinds : Kinds) (Is : Run → List ℕ → Type 0) (bytes : List ℕ)
    : List ℕ → Type 0 where
  no_run : {e : RunRefusal} → IsRunAnswer kinds bytes (Err e)
      → IsRunRefusedWith kinds Is bytes (run_refusal_text e)
  illegal : {r : Run} {why : List ℕ} → IsRunAnswer kinds bytes (Ok r) → Is r why
      → IsRunRefusedWith kinds Is bytes why

-- the line says that the run is refused, for such a cause
pub record IsLineOf (Is : List ℕ → Type 0) (line : List ℕ) : Type 0 where
  pub why : List ℕ
  pub cause : Is why
  pub layout : line ≡ run_refused_line why

-- the line says why the bytes of a run are refused
abbrev pub IsRunRefusal : (kinds : Kinds) → (Run → List ℕ → Type 0) → List ℕ → List ℕ → Type 0
IsRunRefusal kinds Is z line = IsLineOf (IsRunRefusedWith kinds Is z) line
