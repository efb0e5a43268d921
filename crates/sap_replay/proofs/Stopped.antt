-- Lines that say where a run stops.
use Rattle.std.proofs.Common.{◌≡◌, ℕ, List, Result, Ok, Err, refl}
use Rattle.sap_back.specs.Converted as back
use Rattle.sap_back.specs.declared.back_at.BackAt.{BackAt}
use Rattle.sap_back.specs.declared.back_at.BackAt.TheVariants as rules
use Rattle.sap_lines.specs.declared.at.At.{At}
use Rattle.sap_lines.specs.declared.at.At.TheVariants as process
use Rattle.sap_lines.specs.declared.fault.PFault.{PFault}
use Rattle.sap_lines.specs.FirstRefused.{IsFirstRefusedOfProcess}
use Rattle.sap_read.specs.Files.{FileContent}
use Rattle.sap_restrict.specs.declared.which.Which.{Which}
use Rattle.sap_rule.specs.declared.theory.Theory.{Theory}
use Rattle.sap_run_texts.specs.RunTexts.{IsRunRead, as_rules}
use Rattle.sap_run_texts.specs.declared.run.Kinds.{Kinds}
use Rattle.sap_run_texts.specs.declared.run.Kinds.TheVariants as kinds
use Rattle.sap_run_texts.specs.declared.run.Run.{Run}
use Rattle.sap_run_texts.specs.declared.run.Run.TheVariants as run
use Rattle.sap_run_texts.specs.declared.run_fault.RunFault.{RunFault}
use Rattle.sap_outside.specs.RunPieces.{IsRunAnswer, is_run}
use Rattle.sap_replay.specs.declared.checking.Stop.{Stop}
use Rattle.sap_replay.specs.declared.checking.Stop.TheVariants as stop
use Rattle.sap_outside.specs.declared.run_refusal.RunRefusal.{RunRefusal}
use Rattle.sap_runs.specs.declared.process_step.PStep.{PStep}
use Rattle.sap_runs.specs.declared.rule_step.RStep.{RStep}
use Rattle.sap_steps.specs.declared.fault.RFault.{RFault}
use Rattle.sap_refusals.specs.RunFaultTexts.{at_step, process_fault_text, rule_fault_text, broken_text, run_refusal_text, run_refused_line}
use Rattle.sap_replay.specs.RunRefusals.{IsIllegal, IsIllegalOfTheory, of_process, of_rules, breaks, of_theory, no_run, illegal, IsLineOf, IsRunRefusal}
use Rattle.sap_replay.specs.code.Checked.{IsStopped}
use Rattle.sap_replay.specs.code.Refused.{IsAtLine, IsBackAtLine, IsCheckLine}

-- a line that says where a run of the process stops refuses it
pub process_stops : (f : FileContent) (lines : List PStep) (at : At) (line : List ℕ) → IsAtLine at line
    → ((step : ℕ) (fault : PFault) → at ≡ process.Step step fault → IsFirstRefusedOfProcess f.signature f.process lines step fault)
    → IsLineOf (IsIllegal f (run.Process lines)) line
process_stops f lines process.Mem line is refused = absurd is
process_stops f lines (process.Step step fault) line is refused =
    record { why = at_step step (process_fault_text fault); cause = of_process step fault (refused step fault refl); layout = is }

-- so does one that says where a run of rules stops
pub rules_stop : (f : FileContent) (lines : List RStep) (at : BackAt) (line : List ℕ) → IsBackAtLine at line
    → ((step : ℕ) (fault : RFault) → at ≡ rules.Step step fault → back.IsFirstRefusedOfRules f.signature f.process lines step fault)
    → ((step : ℕ) (which : Which) → at ≡ rules.Broken step which → back.IsFirstBroken f.signature f.process lines step which)
    → IsLineOf (IsIllegal f (run.Rules lines)) line
rules_stop f lines rules.Mem line is refused broken = absurd is
rules_stop f lines (rules.Step step fault) line is refused broken =
    record { why = at_step step (rule_fault_text fault); cause = of_rules step fault (refused step fault refl); layout = is }
rules_stop f lines (rules.Broken step which) line is refused broken =
    record { why = at_step step (broken_text which); cause = breaks step which (broken step which refl); layout = is }

-- so does one that says where a run of a theory's rules stops
pub theory_stops : (t : Theory) (lines : List RStep) (at : Stop) (line : List ℕ) → IsCheckLine at line → IsStopped t lines at
    → IsLineOf (IsIllegalOfTheory t (run.Rules lines)) line
theory_stops t lines stop.Mem line is refused = absurd is
theory_stops t lines (stop.Step step fault) line is refused =
    record { why = at_step step (rule_fault_text fault); cause = of_theory step fault refused; layout = is }

-- a line that says why bytes are no run refuses them, and so does one that refuses the run that they are
pub no_run_stops : (kinds : Kinds) (Is : Run → List ℕ → Type 0) (z : List ℕ) (e : RunRefusal) (line : List ℕ) → IsRunAnswer kinds z (Err e) → line ≡ run_refused_line (run_refusal_text e)
    → IsRunRefusal kinds Is z line
no_run_stops kinds Is z e line a layout = record { why = run_refusal_text e; cause = no_run a; layout = layout }

pub run_stops : (kinds : Kinds) (Is : Run → List ℕ → Type 0) (z : List ℕ) (r : Run) (line : List ℕ) → IsRunAnswer kinds z (Ok r) → IsLineOf (Is r) line → IsRunRefusal kinds Is z line
run_stops kinds Is z r line a l = record { why = l.why; cause = illegal a l.cause; layout = l.layout }

-- where runs of rules are asked for, none of a process is answered
pub never_process : (z : List ℕ) (lines : List PStep) → IsRunAnswer kinds.Rules z (Ok (run.Process lines)) → ⊥
never_process z lines (is_run l read) = at (Ok (run.Process lines)) refl read where
  at : (o : Result Run RunFault) → o ≡ Ok (run.Process lines) → IsRunRead kinds.Rules z o → ⊥
  at _ e (as_rules {o = Ok steps} t) = cc
  at _ e (as_rules {o = Err f} t) = cc
