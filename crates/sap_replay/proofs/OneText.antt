-- A run has one text of verdicts.
use Rattle.std.proofs.Common.{◌≡◌, ℕ, List, [], ◌∷◌, ◌++◌, refl, ap, subst, ◌∙◌}
use Rattle.std.specs.Prelude.{All}
use Rattle.sap_terms.specs.Message.{IsMessageTrace}
use Rattle.sap_terms.specs.Signature.{Sig, HoldsBuiltins}
use Rattle.sap_terms.specs.Trace.{Trace}
use Rattle.sap_formula.specs.Form.{RestrictionForm, LemmaForm}
use Rattle.sap_formula.specs.Hide.{hide}
use Rattle.sap_formula.specs.Laws.{IsClosed}
use Rattle.sap_judge.specs.Laws.{OneVerdictLaw, SomeVerdictLaw}
use Rattle.sap_formula.specs.Truth.{EachIn}
use Rattle.sap_judge.specs.declared.verdict.Verdict.{Verdict}
use Rattle.sap_read.specs.Files.{FileContent, IsRunnable}
use Rattle.sap_rule.specs.WellMade.{IsWellMade}
use Rattle.sap_rule.specs.declared.theory.Theory.{Theory}
use Rattle.sap_run_texts.specs.declared.run.Run.{Run}
use Rattle.sap_templates.specs.Templates.{rules_of}
use Rattle.sap_replay.specs.Replays.{IsSeen, of_process, of_rules, IsJudgedText, IsFullOf, of_theory, IsCheckedText}
use Rattle.sap_replay.specs.Verdicts.{Judged, judged_lemmas, all_judged, verdict_line, AreVerdicts, no_line, line_more}
use Rattle.sap_replay.proofs.Legal.{Laws, file_ready, rules_made}
use Rattle.sap_replay.proofs.ProcessRuns as process
use Rattle.sap_replay.proofs.RuleRuns as rules

-- of formulas on a trace
pub one_text : OneVerdictLaw → (g : Sig) (tr : Trace) (xs : List Judged) (text other : List ℕ) → AreVerdicts g tr xs text → AreVerdicts g tr xs other → text ≡ other
one_text law g tr _ _ _ no_line no_line = refl
one_text law g tr _ _ _ (line_more {x = x} {xs = xs} {text = text} v is rest) (line_more {text = other} w is_too rest_too) =
    ap (λ (u : Verdict). verdict_line x.name u ++ text) (law g x.formula tr v w is is_too)
    ∙ ap (λ (t : List ℕ). verdict_line x.name w ++ t) (one_text law g tr xs text other rest rest_too)

-- some text, where the formulas are closed and the trace is one of messages
some_text : SomeVerdictLaw → (g : Sig) (tr : Trace) → IsMessageTrace g tr → (xs : List Judged) → EachIn (λ (x : Judged). IsClosed g x.formula) xs
    → (text : List ℕ) × AreVerdicts g tr xs text
some_text law g tr m [] closed = ([], no_line)
some_text law g tr m (x ∷ xs) closed =
    let v = law g x.formula tr m closed.0 in
    let rest = some_text law g tr m xs closed.1 in
    (verdict_line x.name v.0 ++ rest.0, line_more v.0 v.1 rest.1)

closed_lemmas : (g : Sig) (ls : List LemmaForm) → EachIn (λ (l : LemmaForm). IsClosed g l.formula) ls
    → EachIn (λ (x : Judged). IsClosed g x.formula) (judged_lemmas ls)
closed_lemmas g [] closed = tt
closed_lemmas g (l ∷ ls) closed = (closed.0, closed_lemmas g ls closed.1)

closed_all : (g : Sig) (rs : List RestrictionForm) (ls : List LemmaForm) → EachIn (λ (r : RestrictionForm). IsClosed g r.formula) rs
    → EachIn (λ (l : LemmaForm). IsClosed g l.formula) ls → EachIn (λ (x : Judged). IsClosed g x.formula) (all_judged rs ls)
closed_all g [] ls closed lemmas = closed_lemmas g ls lemmas
closed_all g (r ∷ rs) ls closed lemmas = (closed.0, closed_all g rs ls closed.1 lemmas)

pub some_judged : SomeVerdictLaw → (f : FileContent) (r : Run) (tr : Trace) → IsMessageTrace f.signature tr
    → EachIn (λ (x : RestrictionForm). IsClosed f.signature x.formula) f.restrictions → EachIn (λ (x : LemmaForm). IsClosed f.signature x.formula) f.lemmas
    → IsSeen f r tr → (text : List ℕ) × IsJudgedText f r text
some_judged law f r tr m restrictions lemmas seen =
    let text = some_text law f.signature tr m (all_judged f.restrictions f.lemmas) (closed_all f.signature f.restrictions f.lemmas restrictions lemmas) in
    (text.0, record { trace = tr; seen = seen; verdicts = text.1 })

-- what is seen of a run is one trace
module _ (laws : Laws) (f : FileContent) (runnable : IsRunnable f) where
  one_seen : (r : Run) (tr other : Trace) → IsSeen f r tr → IsSeen f r other → tr ≡ other
  one_seen _ tr other (of_process shown) (of_process too) =
      (process.one_run laws.process f.signature f.process runnable.builtins (file_ready laws f runnable) shown.legal too.legal refl).traces
  one_seen _ _ _ (of_rules s full counted) (of_rules z whole too) =
      ap hide (rules.one_run laws.rules f.signature (rules_of f.process) runnable.builtins (rules_made laws f runnable) counted.legal too.legal refl).1

  pub one_judged : OneVerdictLaw → (r : Run) (text other : List ℕ) → IsJudgedText f r text → IsJudgedText f r other → text ≡ other
  one_judged law r text other j k =
      one_text law f.signature k.trace (all_judged f.restrictions f.lemmas) text other
      (subst (λ (tr : Trace). AreVerdicts f.signature tr (all_judged f.restrictions f.lemmas) text) (one_seen r j.trace k.trace j.seen k.seen) j.verdicts)
      k.verdicts

-- the full trace of a run of a theory's rules is one
module _ (laws : rules.Laws) (t : Theory) (hold : HoldsBuiltins t.signature) (made : All (IsWellMade t.signature) t.rules) where
  one_full : (r : Run) (full other : Trace) → IsFullOf t r full → IsFullOf t r other → full ≡ other
  one_full _ _ _ (of_theory s legal) (of_theory z too) = (rules.one_run laws t.signature t.rules hold made legal too refl).1

  pub one_checked : OneVerdictLaw → (r : Run) (text other : List ℕ) → IsCheckedText t r text → IsCheckedText t r other → text ≡ other
  one_checked law r text other j k =
      one_text law t.signature k.full (all_judged t.restrictions t.lemmas) text other
      (subst (λ (tr : Trace). AreVerdicts t.signature tr (all_judged t.restrictions t.lemmas) text) (one_full r j.full k.full j.shown k.shown) j.verdicts)
      k.verdicts
