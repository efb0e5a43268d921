-- The marks of a small written run.
use Rattle.std.proofs.Common.{◌≡◌, ℕ, zero, suc, List, [], ◌∷◌, ◌++◌, Option, Some, refl, sym, ap, subst, ◌∙◌, slice_get, slice_set}
use Rattle.std.specs.List.{AllZip}
use Rattle.std.specs.Prelude.{codes}
use Rattle.std.proofs.lemmas.List.{same_from_push}
use Rattle.sap_rewrite.specs.Laws.{FormIsOne}
use Rattle.sap_terms.specs.Equal.{same}
use Rattle.sap_terms.specs.Equations.{equations}
use Rattle.sap_terms.specs.Laws.{LeavesAreNormal}
use Rattle.sap_terms.specs.Modulo.{IsFormOfFact}
use Rattle.sap_terms.specs.Normal.{IsNormalForm}
use Rattle.sap_terms.specs.Signature.{Sig}
use Rattle.sap_terms.specs.Trace.{Trace}
use Rattle.sap_terms.specs.Tree.{Tree}
use Rattle.sap_terms.specs.declared.fact.Fact.{Fact}
use Rattle.sap_process.specs.Action as action
use Rattle.sap_process.specs.Configuration.{Config, initial}
use Rattle.sap_process.specs.Proc.{Proc, act}
use Rattle.sap_process.specs.StepExamples.{a, shown_fact}
use Rattle.sap_runs.specs.Inner.{InnerAction, locked}
use Rattle.sap_runs.specs.Limits.{AnySize}
use Rattle.sap_runs.specs.Marks.{Mark, inside, showing, marks_of}
use Rattle.sap_runs.specs.declared.process_step.PStep.{PStep}
use Rattle.sap_runs.specs.declared.process_step.PStep.TheVariants as line
use Rattle.sap_lines.specs.LineExamples.{then_event, lock_event, lock_event_lines, lock_event_end, lock_event_trace, lock_event_marks, turned_marks}
use Rattle.sap_lines.specs.Lines.{IsProcessLine}
use Rattle.sap_lines.specs.Runs.{IsLegalProcessRun, starts, further}

module _ (leaves : LeavesAreNormal) (unique : FormIsOne) (g : Sig) where
  own_form : IsNormalForm (equations g) a a
  own_form = record { equal = same; normal = leaves.of_public_name (equations g) (codes "a") }

  pub legal : IsLegalProcessRun g AnySize lock_event lock_event_lines lock_event_end [] lock_event_trace lock_event_marks
  legal =
      further {c = record (initial then_event) { held = lock_event_end.held }} (line.Event 0) [] (shown_fact a ∷ [])
      (further (line.Lock 0) (locked a ∷ []) [] starts (IsProcessLine.locks 0 refl own_form refl (λ n h. tt)))
      (IsProcessLine.shows 0 refl (record { name = refl; persistent = refl; args = (own_form, tt) }) (λ n h. tt))

  never_empty : {A : Type 0} (xs ys : List A) (y : A) → [] ≡ xs ++ y ∷ ys → ⊥
  never_empty [] ys y e = cc
  never_empty (x ∷ xs) ys y e = cc

  -- one thread runs
  alone_is : (t : ℕ) (p q : Proc) → slice_get (Some q ∷ []) t ≡ Some (Some p) → p ≡ q
  alone_is zero p q e = cc
  alone_is (suc t) p q e = absurd (cc)

  set_alone : (t : ℕ) (p q : Proc) (o : Option Proc) → slice_get (Some q ∷ []) t ≡ Some (Some p) → slice_set (Some q ∷ []) t o ≡ o ∷ []
  set_alone zero p q o e = refl
  set_alone (suc t) p q o e = absurd (cc)

  args_are : (ts : List Tree) → AllZip (IsNormalForm (equations g)) (a ∷ []) ts → ts ≡ a ∷ []
  args_are [] h = absurd h
  args_are (t ∷ []) h = ap (λ u. u ∷ []) (unique (equations g) a t a h.0 own_form)
  args_are (t ∷ u ∷ ts) h = absurd h.1

  form_is : (h : Fact) → IsFormOfFact (equations g) (shown_fact a) h → h ≡ shown_fact a
  form_is h form = λ i. record { name = form.name i; persistent = form.persistent i; args = args_are h.args form.args i }

  -- a line that locks, and one that shows an event
  lock_is : {c d : Config} {es fs : List Tree} {inner : List InnerAction} {label : List Fact} {t : ℕ} → IsProcessLine g AnySize c es (line.Lock t) inner label d fs
      → c.threads ≡ Some lock_event ∷ [] → (inner ≡ locked a ∷ []) × (label ≡ []) × (d.threads ≡ Some then_event ∷ [])
  lock_is (IsProcessLine.locks {c = c} {m = m} {k = k} {i = n} {p = p} t r form free within) h =
      let there = subst (λ ts. slice_get ts t ≡ Some (Some (act (action.lock m n) p))) h r in
      let is : act (action.lock m n) p ≡ lock_event = alone_is t (act (action.lock m n) p) lock_event there in
      let term : m ≡ a = cc in
      let behind : p ≡ then_event = cc in (
        ap (λ u. locked u ∷ []) (unique (equations g) a k a (subst (λ u. IsNormalForm (equations g) u k) term form) own_form),
        refl,
        ap (λ ts. slice_set ts t (Some p)) h ∙ set_alone t (act (action.lock m n) p) lock_event (Some p) there ∙ ap (λ q. Some q ∷ []) behind,
      )

  event_is : {c d : Config} {es fs : List Tree} {inner : List InnerAction} {label : List Fact} {t : ℕ} → IsProcessLine g AnySize c es (line.Event t) inner label d fs
      → c.threads ≡ Some then_event ∷ [] → (inner ≡ []) × (label ≡ shown_fact a ∷ [])
  event_is (IsProcessLine.shows {c = c} {f = f} {h = w} {p = p} t r form within) h =
      let there = subst (λ ts. slice_get ts t ≡ Some (Some (act (action.event f) p))) h r in
      let is : act (action.event f) p ≡ then_event = alone_is t (act (action.event f) p) then_event there in
      let fact : f ≡ shown_fact a = cc in
      (refl, ap (λ x. x ∷ []) (form_is w (subst (λ x. IsFormOfFact (equations g) x w) fact form)))

  -- before any line, behind the first, and behind both
  at_start : {lines : List PStep} {c : Config} {es : List Tree} {tr : Trace} {ms : List Mark} → IsLegalProcessRun g AnySize lock_event lines c es tr ms → lines ≡ []
      → (c.threads ≡ Some lock_event ∷ []) × (ms ≡ [])
  at_start starts e = (refl, refl)
  at_start (further {lines = ls} step inner label run is) e = absurd (never_empty ls [] step (sym e))

  behind_lock : {lines : List PStep} {c : Config} {es : List Tree} {tr : Trace} {ms : List Mark} → IsLegalProcessRun g AnySize lock_event lines c es tr ms
      → lines ≡ line.Lock 0 ∷ [] → (c.threads ≡ Some then_event ∷ []) × (ms ≡ inside (locked a) ∷ [])
  behind_lock starts e = absurd (cc)
  behind_lock (further {lines = ls} {c = c} {d = d} {es = es} {fs = fs} step inner label run is) e =
      let ends = same_from_push ls [] step (line.Lock 0) e in
      let begun = at_start run ends.0 in
      let on = lock_is (subst (λ (x : PStep). IsProcessLine g AnySize c es x inner label d fs) ends.1 is) begun.0 in
      (on.2, ap (λ ms. ms ++ marks_of inner label) begun.1 ∙ ap (λ i. marks_of i label) on.0 ∙ ap (λ l. marks_of (locked a ∷ []) l) on.1)

  behind_both : {lines : List PStep} {c : Config} {es : List Tree} {tr : Trace} {ms : List Mark} → IsLegalProcessRun g AnySize lock_event lines c es tr ms
      → lines ≡ lock_event_lines → ms ≡ lock_event_marks
  behind_both starts e = absurd (cc)
  behind_both (further {lines = ls} {c = c} {d = d} {es = es} {fs = fs} step inner label run is) e =
      let ends = same_from_push ls (line.Lock 0 ∷ []) step (line.Event 0) e in
      let behind = behind_lock run ends.0 in
      let on = event_is (subst (λ (x : PStep). IsProcessLine g AnySize c es x inner label d fs) ends.1 is) behind.0 in
      ap (λ ms. ms ++ marks_of inner label) behind.1 ∙ ap (λ i. (inside (locked a) ∷ []) ++ marks_of i label) on.0
      ∙ ap (λ l. (inside (locked a) ∷ []) ++ marks_of [] l) on.1

  pub only : (d : Config) (es : List Tree) (tr : Trace) (marks : List Mark) → IsLegalProcessRun g AnySize lock_event lock_event_lines d es tr marks → marks ≡ lock_event_marks
  only d es tr marks run = behind_both run refl

  pub not_turned : (d : Config) (es : List Tree) (tr : Trace) → IsLegalProcessRun g AnySize lock_event lock_event_lines d es tr turned_marks → ⊥
  not_turned d es tr run =
      let e : showing (shown_fact a ∷ []) ∷ inside (locked a) ∷ [] ≡ inside (locked a) ∷ showing (shown_fact a ∷ []) ∷ [] = only d es tr turned_marks run in
      cc
