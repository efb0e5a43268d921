-- The same is said of a run and of the one opposite.
use Rattle.std.proofs.Common.{◌≡◌, ℕ, List, refl, sym, ap, subst, ◌∙◌}
use Rattle.sap_terms.specs.Trace.{Trace}
use Rattle.sap_formula.specs.Hide.{hide}
use Rattle.sap_read.specs.Files.{FileContent, IsRunnable}
use Rattle.sap_restrict.specs.Standard.{IsAdmitted}
use Rattle.sap_rule.specs.declared.theory.Theory.{Theory}
use Rattle.sap_run_texts.specs.declared.run.Run.TheVariants as run
use Rattle.sap_runs.specs.Limits.{HasFewNodes}
use Rattle.sap_runs.specs.declared.process_step.PStep.{PStep}
use Rattle.sap_runs.specs.declared.rule_step.RStep.{RStep}
use Rattle.sap_steps.specs.Runs.{IsLegalRun}
use Rattle.sap_templates.specs.Templates.{rules_of}
use Rattle.sap_back.specs.Converted as back
use Rattle.sap_replay.specs.Replays.{AreOpposite, IsSeen, of_process, of_rules, IsJudgedText}
use Rattle.sap_replay.specs.Verdicts.{AreVerdicts, all_judged}
use Rattle.sap_replay.proofs.Legal.{Laws, file_ready, rules_made}
use Rattle.sap_replay.proofs.ProcessRuns as process
use Rattle.sap_replay.proofs.RuleRuns as rules

module _ (laws : Laws) (f : FileContent) (runnable : IsRunnable f) (lines : List PStep) (rule_lines : List RStep) (o : AreOpposite f lines rule_lines) (text : List ℕ) where
  legal_rules : IsLegalRun f.signature (rules_of f.process) HasFewNodes rule_lines o.state o.full
  legal_rules = subst (λ (t : Theory). IsLegalRun t.signature t.rules HasFewNodes rule_lines o.state o.full) o.compiled o.legal_rules

  counted : back.IsAdmittedRun f.signature f.process rule_lines o.state o.full
  counted = record { legal = legal_rules; admitted = subst (λ (t : Theory). IsAdmitted t.signature o.full) o.compiled o.admitted }

  moved : (tr other : Trace) → tr ≡ other → AreVerdicts f.signature tr (all_judged f.restrictions f.lemmas) text
      → AreVerdicts f.signature other (all_judged f.restrictions f.lemmas) text
  moved tr other same v = subst (λ (x : Trace). AreVerdicts f.signature x (all_judged f.restrictions f.lemmas) text) same v

  pub of_rules_too : IsJudgedText f (run.Process lines) text → IsJudgedText f (run.Rules rule_lines) text
  of_rules_too j = at j.trace j.seen j.verdicts where
    at : (tr : Trace) → IsSeen f (run.Process lines) tr → AreVerdicts f.signature tr (all_judged f.restrictions f.lemmas) text → IsJudgedText f (run.Rules rule_lines) text
    at tr (of_process shown) v =
        let one = process.one_run laws.process f.signature f.process runnable.builtins (file_ready laws f runnable) shown.legal o.legal refl in
        record { trace = hide o.full; seen = of_rules o.state o.full counted; verdicts = moved tr (hide o.full) (one.traces ∙ sym o.shows) v }

  pub of_process_too : IsJudgedText f (run.Rules rule_lines) text → IsJudgedText f (run.Process lines) text
  of_process_too j = at j.trace j.seen j.verdicts where
    at : (tr : Trace) → IsSeen f (run.Rules rule_lines) tr → AreVerdicts f.signature tr (all_judged f.restrictions f.lemmas) text → IsJudgedText f (run.Process lines) text
    at _ (of_rules s full other) v =
        let one = rules.one_run laws.rules f.signature (rules_of f.process) runnable.builtins (rules_made laws f runnable) other.legal legal_rules refl in
        record {
          trace = o.trace;
          seen = of_process (record { config = o.config; entries = o.entries; marks = o.marks_of_both; legal = o.legal });
          verdicts = moved (hide full) o.trace (ap hide one.1 ∙ o.shows) v;
        }
