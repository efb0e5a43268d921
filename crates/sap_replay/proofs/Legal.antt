-- A run that is legal has no line that is illegal.
use Rattle.std.proofs.Common.{◌≡◌, ◌<◌, ◌^◌, ℕ, List, Some, arith}
use Rattle.std.specs.Prelude.{All}
use Rattle.sap_terms.specs.Equations.{pair_name}
use Rattle.sap_terms.specs.Signature.{Sig, HoldsBuiltins, arity_of}
use Rattle.sap_terms.specs.Trace.{Trace}
use Rattle.sap_terms.specs.Tree.{Tree}
use Rattle.sap_locks.specs.Annotation.{IsAnnotation}
use Rattle.sap_process.specs.Configuration.{Config}
use Rattle.sap_process.specs.Proc.{Proc, node_count}
use Rattle.sap_process.specs.Ready.{IsReady}
use Rattle.sap_rule.specs.RuleSteps.{RuleState}
use Rattle.sap_rule.specs.WellMade.{IsWellMade}
use Rattle.sap_rule.specs.declared.theory.Theory.{Theory}
use Rattle.sap_read.specs.Files.{FileContent, IsRunnable}
use Rattle.sap_run_texts.specs.declared.run.Run.{Run}
use Rattle.sap_run_texts.specs.declared.run.Run.TheVariants as run
use Rattle.sap_runs.specs.Limits.{HasFewNodes}
use Rattle.sap_runs.specs.Marks.{Mark}
use Rattle.sap_runs.specs.declared.process_step.PStep.{PStep}
use Rattle.sap_runs.specs.declared.rule_step.RStep.{RStep}
use Rattle.sap_lines.specs.Runs.{IsLegalProcessRun}
use Rattle.sap_templates.specs.Templates.{rules_of}
use Rattle.sap_back.specs.Converted as back
use Rattle.sap_replay.specs.Replays.{IsSeen, of_process, of_rules, IsFullOf, of_theory}
use Rattle.sap_replay.specs.RunRefusals as refused
use Rattle.sap_replay.specs.RunRefusals.{IsIllegal, IsIllegalOfTheory}
use Rattle.sap_replay.proofs.ProcessRuns as process
use Rattle.sap_replay.proofs.RuleRuns as rules

-- the run is legal within the limit; of rules, its full trace is admitted
pub data IsLegal (f : FileContent) : Run → Type 0 where
  a_process : {lines : List PStep} {c : Config} {es : List Tree} {tr : Trace} {ms : List Mark} → IsLegalProcessRun f.signature HasFewNodes f.process lines c es tr ms
      → IsLegal f (run.Process lines)
  some_rules : {lines : List RStep} {s : RuleState} {full : Trace} → back.IsAdmittedRun f.signature f.process lines s full → IsLegal f (run.Rules lines)

pub seen_is_legal : (f : FileContent) (r : Run) (tr : Trace) → IsSeen f r tr → IsLegal f r
seen_is_legal f _ tr (of_process shown) = a_process shown.legal
seen_is_legal f _ _ (of_rules s full counted) = some_rules counted

-- the laws of lines and of rules of files
pub record Laws : Type 0 where
  pub process : process.Laws
  pub rules : rules.Laws
  pub ready : (g : Sig) (p q : Proc) → IsReady g p → IsAnnotation p q → IsReady g q
  pub made : (g : Sig) (p q : Proc) → arity_of g pair_name ≡ Some 2 → IsReady g p → node_count p < 2 ^ 64 → IsAnnotation p q → All (IsWellMade g) (rules_of q)

module _ (laws : Laws) (f : FileContent) (runnable : IsRunnable f) where
  pub file_ready : IsReady f.signature f.process
  file_ready = laws.ready f.signature runnable.process f.process runnable.ready runnable.annotation

  pub rules_made : All (IsWellMade f.signature) (rules_of f.process)
  rules_made =
      let small = runnable.small in
      laws.made f.signature runnable.process f.process runnable.pairs runnable.ready (omega (arith, small)) runnable.annotation

  -- no line of it is illegal
  pub never_illegal : (r : Run) (why : List ℕ) → IsLegal f r → IsIllegal f r why → ⊥
  never_illegal _ _ (a_process legal) (refused.of_process number e first) =
      process.never_refused laws.process f.signature f.process runnable.builtins file_ready number e legal first
  never_illegal _ _ (some_rules counted) (refused.of_rules number e first) =
      rules.never_refused laws.rules f.signature (rules_of f.process) runnable.builtins rules_made first.before first.after first.line first.state first.full e
      counted.legal first.cut first.counted.legal first.refused first.cause
  never_illegal _ _ (some_rules counted) (refused.breaks number which first) =
      rules.never_broken laws.rules f.signature (rules_of f.process) runnable.builtins rules_made first.before first.after first.line first.state first.next first.full first.acts which
      counted.legal (counted.admitted which) first.cut first.counted.legal first.possible first.broken.this

-- so it is with runs of a theory's rules
pub never_illegal_of_theory : rules.Laws → (t : Theory) → HoldsBuiltins t.signature → All (IsWellMade t.signature) t.rules → (r : Run) (full : Trace) (why : List ℕ) → IsFullOf t r full
    → IsIllegalOfTheory t r why → ⊥
never_illegal_of_theory laws t hold made _ full _ (of_theory s legal) (refused.of_theory number e first) =
    rules.never_refused laws t.signature t.rules hold made first.before first.after first.line first.state first.full e legal first.cut first.legal first.refused first.cause
