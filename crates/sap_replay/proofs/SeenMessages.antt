-- What is seen of a run of a file are messages.
use Rattle.std.proofs.Common.{◌≡◌, ◌<◌, ◌^◌, true, false, Bool, List, [], ◌∷◌, ◌++◌, refl, subst, arith}
use Rattle.std.proofs.lemmas.List.Elements.{All-nil, All-cons, All-head, All-tail}
use Rattle.sap_terms.specs.Message.{IsMessageFact, AreMessageFacts, IsMessageTrace}
use Rattle.sap_terms.specs.Signature.{Sig, HoldsBuiltins}
use Rattle.sap_terms.specs.Trace.{Trace, shown}
use Rattle.sap_terms.specs.declared.fact.Fact.{Fact}
use Rattle.sap_formula.specs.Hide.{is_hidden, visible, hide}
use Rattle.sap_lines.specs.Runs.{ProcessLinesAreRuns}
use Rattle.sap_locks.specs.Annotation.{IsAnnotation}
use Rattle.sap_process.specs.Proc.{Proc, node_count}
use Rattle.sap_process.specs.Ready.{IsReady}
use Rattle.sap_read.specs.Files.{FileContent, IsRunnable}
use Rattle.sap_rule.specs.RuleSteps.{IsFullTrace}
use Rattle.sap_run_texts.specs.declared.run.Run.{Run}
use Rattle.sap_runs.specs.Limits.{HasFewNodes}
use Rattle.sap_steps.specs.Runs.{LinesAreRuns}
use Rattle.sap_translate.specs.Faithful.{ShowsAll}
use Rattle.sap_templates.specs.Templates.{rules_of}
use Rattle.sap_replay.specs.Replays.{IsSeen, of_process, of_rules}

-- of messages nothing else is seen
one_more : (g : Sig) (f : Fact) (fs : List Fact) (b : Bool) → IsMessageFact g f → AreMessageFacts g (visible fs) → is_hidden f.name ≡ b
    → AreMessageFacts g (visible (f ∷ fs))
one_more g f fs true m rest e = rw e rest
one_more g f fs false m rest e = rw e (All-cons (IsMessageFact g) f (visible fs) m rest)

visible_messages : (g : Sig) (fs : List Fact) → AreMessageFacts g fs → AreMessageFacts g (visible fs)
visible_messages g [] a = All-nil (IsMessageFact g)
visible_messages g (f ∷ fs) a =
    one_more g f fs (is_hidden f.name) (All-head (IsMessageFact g) f fs a) (visible_messages g fs (All-tail (IsMessageFact g) f fs a)) refl

one_time_more : (g : Sig) (seen : List Fact) (tr : Trace) → AreMessageFacts g seen → IsMessageTrace g tr → IsMessageTrace g (shown seen ++ tr)
one_time_more g [] tr m rest = rest
one_time_more g (f ∷ fs) tr m rest = All-cons (AreMessageFacts g) (f ∷ fs) tr m rest

pub hidden_messages : (g : Sig) (tr : Trace) → IsMessageTrace g tr → IsMessageTrace g (hide tr)
hidden_messages g [] a = All-nil (AreMessageFacts g)
hidden_messages g (fs ∷ tr) a =
    one_time_more g (visible fs) (hide tr) (visible_messages g fs (All-head (AreMessageFacts g) fs tr a)) (hidden_messages g tr (All-tail (AreMessageFacts g) fs tr a))

-- so it is with what a run of a file shows
module _ (runs : ProcessLinesAreRuns HasFewNodes) (rule_runs : LinesAreRuns HasFewNodes)
    (all : (g : Sig) (p q : Proc) → HoldsBuiltins g → IsReady g p → node_count p < 2 ^ 64 → IsAnnotation p q → ShowsAll g q (rules_of q)) (f : FileContent) (runnable : IsRunnable f)
    (messages : (full : Trace) → IsFullTrace f.signature (rules_of f.process) full → IsMessageTrace f.signature full) where
  pub seen_messages : (r : Run) (tr : Trace) → IsSeen f r tr → IsMessageTrace f.signature tr
  seen_messages _ tr (of_process {lines = lines} shown) =
      let small = runnable.small in
      let run = runs f.signature f.process lines shown.config shown.entries tr shown.marks shown.legal in
      let seen = all f.signature runnable.process f.process runnable.builtins runnable.ready (omega (arith, small)) runnable.annotation tr (shown.config, run.0) in
      subst (IsMessageTrace f.signature) seen.3 (hidden_messages f.signature seen.0 (messages seen.0 seen.1))
  seen_messages _ _ (of_rules {lines = lines} s full counted) =
      hidden_messages f.signature full (messages full (s, rule_runs f.signature (rules_of f.process) lines s full counted.legal))
