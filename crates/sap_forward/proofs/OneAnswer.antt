-- A written run of a process has one answer.
use Rattle.std.proofs.Common.{◌≡◌, ◌⊎◌, inl, inr, ℕ, ◌+◌, List, [], ◌∷◌, ◌++◌, length, refl, sym, ap, ◌∙◌, subst, append_assoc, append-nil}
use Rattle.sap_terms.specs.Signature.{Sig, HoldsBuiltins}
use Rattle.sap_terms.specs.Trace.{Trace, shown}
use Rattle.sap_terms.specs.Tree.{Tree}
use Rattle.sap_terms.specs.declared.fact.Fact.{Fact}
use Rattle.sap_process.specs.Configuration.{Config, initial}
use Rattle.sap_process.specs.Proc.{Proc}
use Rattle.sap_process.specs.Ready.{IsReady}
use Rattle.sap_runs.specs.Inner.{InnerAction}
use Rattle.sap_runs.specs.Limits.{HasFewNodes}
use Rattle.sap_runs.specs.Marks.{Mark, marks_of}
use Rattle.sap_runs.specs.declared.process_step.PStep.{PStep}
use Rattle.sap_lines.specs.Answers.{MatchesExactly, ProcessLinesHaveOneOutcome, ProcessLinesHaveOneAnswer, ProcessLinesHaveSomeAnswer, RefusalsAreOne, RunsMatchExactly}
use Rattle.sap_lines.specs.Faults.{IsRefused}
use Rattle.sap_lines.specs.Lines.{IsProcessLine}
use Rattle.sap_lines.specs.Runs.{IsLegalProcessRun, SmallProcessLinesAreLines, SmallProcessRunsAreLegal}
use Rattle.sap_lines.specs.declared.fault.PFault.{PFault}
use Rattle.sap_lines.specs.declared.fault.PFault.TheVariants.{Mem}
use Rattle.sap_lines.specs.FirstRefused.{IsFirstRefusedOfProcess}
use Rattle.sap_forward.specs.Answers.{EachIsLegalOrRefused, LegalIsNotRefused, HasOneTrace, HasOneFirst}
use Rattle.sap_forward.specs.Converted.{IsShownByLines}

-- lists that are put together at the end

pushed : {A : Type 0} (xs : List A) (x : A) → xs ++ x ∷ [] ≡ [] → ⊥
pushed [] x e = absurd (cc)
pushed (y ∷ xs) x e = absurd (cc)

no_cut : {A : Type 0} (xs ys : List A) (x : A) → [] ≡ xs ++ x ∷ ys → ⊥
no_cut [] ys x e = absurd (cc)
no_cut (z ∷ xs) ys x e = absurd (cc)

-- what stands last, and what stands before it
last_same : {A : Type 0} (xs ys : List A) (x y : A) → xs ++ x ∷ [] ≡ ys ++ y ∷ [] → (xs ≡ ys) × (x ≡ y)
last_same [] [] x y e = (refl, (let s : x ≡ y = cc in s))
last_same [] (z ∷ ys) x y e = absurd (let t : ys ++ y ∷ [] ≡ [] = cc in pushed ys y t)
last_same (w ∷ xs) [] x y e = absurd (let t : xs ++ x ∷ [] ≡ [] = cc in pushed xs x t)
last_same (w ∷ xs) (z ∷ ys) x y e =
    let tails : xs ++ x ∷ [] ≡ ys ++ y ∷ [] = cc in
    let h = last_same xs ys x y tails in
    let heads : w ≡ z = cc in
    ((λ i. heads i ∷ h.0 i), h.1)

data Last {A : Type 0} (xs : List A) : Type 0 where
  nothing : xs ≡ [] → Last xs
  behind : (ys : List A) (y : A) → xs ≡ ys ++ y ∷ [] → Last xs

last_of : {A : Type 0} (xs : List A) → Last xs
last_of [] = nothing refl
last_of (x ∷ xs) = elim (last_of xs) [ nothing e ↦ behind [] x (ap (λ zs. x ∷ zs) e) | behind ys y e ↦ behind (x ∷ ys) y (ap (λ zs. x ∷ zs) e) ]

-- two cuts of one list
data Cuts {A : Type 0} (xs ys : List A) (x y : A) : Type 0 where
  one_cut : xs ≡ ys → x ≡ y → Cuts xs ys x y
  first_before : (rest : List A) → ys ≡ xs ++ x ∷ rest → Cuts xs ys x y
  second_before : (rest : List A) → xs ≡ ys ++ y ∷ rest → Cuts xs ys x y

cuts : {A : Type 0} (xs ys : List A) (x y : A) (us vs : List A) → xs ++ x ∷ us ≡ ys ++ y ∷ vs → Cuts xs ys x y
cuts [] [] x y us vs e = one_cut refl (let s : x ≡ y = cc in s)
cuts [] (z ∷ ys) x y us vs e = first_before ys (let s : z ≡ x = cc in ap (λ w. w ∷ ys) s)
cuts (w ∷ xs) [] x y us vs e = second_before xs (let s : w ≡ y = cc in ap (λ z. z ∷ xs) s)
cuts (w ∷ xs) (z ∷ ys) x y us vs e =
    let tails : xs ++ x ∷ us ≡ ys ++ y ∷ vs = cc in
    let heads : w ≡ z = cc in
    elim (cuts xs ys x y us vs tails) [
      | one_cut a b ↦ one_cut (λ i. heads i ∷ a i) b
      | first_before rest a ↦ first_before rest (λ i. sym heads i ∷ a i)
      | second_before rest a ↦ second_before rest (λ i. heads i ∷ a i)
    ]

-- what two legal runs of the same lines have in common
record AreOneRun (c d : Config) (es fs : List Tree) (tr tr2 : Trace) (ms ms2 : List Mark) : Type 0 where
  configs : c ≡ d
  entries : es ≡ fs
  traces : tr ≡ tr2
  marks : ms ≡ ms2

-- a line of a legal run, behind the lines before it
record CutRun (g : Sig) (q : Proc) (before : List PStep) (step : PStep) : Type 0 where
  config : Config
  entries : List Tree
  trace : Trace
  marks : List Mark
  legal : IsLegalProcessRun g HasFewNodes q before config entries trace marks
  inner : List InnerAction
  label : List Fact
  after : Config
  later : List Tree
  is : IsProcessLine g HasFewNodes config entries step inner label after later

cut_run : {g : Sig} {q : Proc} {lines : List PStep} {c : Config} {es : List Tree} {tr : Trace} {ms : List Mark} → IsLegalProcessRun g HasFewNodes q lines c es tr ms → (before after : List PStep) (step : PStep) → lines ≡ before ++ step ∷ after → CutRun g q before step
cut_run IsLegalProcessRun.starts before after step e = absurd (no_cut before after step e)
cut_run {g = g} {q = q} (IsLegalProcessRun.further {lines = lines} {c = c} {d = d} {es = es} {fs = fs} {tr = tr} {marks = ms} last inner label run is) before after step e = by (last_of after) (λ ys k. cut_run run before ys step k) where
  by : Last after → ((ys : List PStep) → lines ≡ before ++ step ∷ ys → CutRun g q before step) → CutRun g q before step
  by (nothing none) more =
      let ends = last_same lines before last step (e ∙ ap (λ zs. before ++ step ∷ zs) none) in
      record {
        config = c;
        entries = es;
        trace = tr;
        marks = ms;
        legal = subst (λ xs. IsLegalProcessRun g HasFewNodes q xs c es tr ms) ends.0 run;
        inner = inner;
        label = label;
        after = d;
        later = fs;
        is = subst (λ x. IsProcessLine g HasFewNodes c es x inner label d fs) ends.1 is;
      }
  by (behind ys y there) more = more ys (last_same lines (before ++ step ∷ ys) last y (e ∙ ap (λ zs. before ++ step ∷ zs) there ∙ sym (append_assoc before (step ∷ ys) (y ∷ [])))).0

module _ (outcome : ProcessLinesHaveOneOutcome) (answer : ProcessLinesHaveOneAnswer) (cause : RefusalsAreOne) (some : ProcessLinesHaveSomeAnswer) (exactly : RunsMatchExactly) (wide_line : SmallProcessLinesAreLines) (wide_run : SmallProcessRunsAreLegal) (g : Sig) (q : Proc) (hold : HoldsBuiltins g) (ready : IsReady g q) where
  exact : {lines : List PStep} {c : Config} {es : List Tree} {tr : Trace} {ms : List Mark} → IsLegalProcessRun g HasFewNodes q lines c es tr ms → MatchesExactly g c es
  exact {lines = lines} {c = c} {es = es} {tr = tr} {ms = ms} run = exactly g q lines c es tr ms hold ready (wide_run g q lines c es tr ms run)

  one_run : {lines more : List PStep} {c d : Config} {es fs : List Tree} {tr tr2 : Trace} {ms ms2 : List Mark} → IsLegalProcessRun g HasFewNodes q lines c es tr ms → IsLegalProcessRun g HasFewNodes q more d fs tr2 ms2 → lines ≡ more → AreOneRun c d es fs tr tr2 ms ms2
  one_run IsLegalProcessRun.starts IsLegalProcessRun.starts e = record { configs = refl; entries = refl; traces = refl; marks = refl }
  one_run IsLegalProcessRun.starts (IsLegalProcessRun.further {lines = more} step inner label run is) e = absurd (pushed more step (sym e))
  one_run (IsLegalProcessRun.further {lines = lines} step inner label run is) IsLegalProcessRun.starts e = absurd (pushed lines step e)
  one_run (IsLegalProcessRun.further {lines = lines} {c = c} {d = d} {es = es} {fs = fs} {tr = tr} {marks = ms} step inner label run is) (IsLegalProcessRun.further {lines = more} {c = c2} {d = d2} {es = es2} {fs = fs2} {tr = tr2} {marks = ms2} step2 inner2 label2 run2 is2) e =
      let ends = last_same lines more step step2 e in
      let h = one_run run run2 ends.0 in
      let other : IsProcessLine g HasFewNodes c es step inner2 label2 d2 fs2 = subst (λ x. IsProcessLine g HasFewNodes x es step inner2 label2 d2 fs2) (sym h.configs) (subst (λ x. IsProcessLine g HasFewNodes c2 x step inner2 label2 d2 fs2) (sym h.entries) (subst (λ x. IsProcessLine g HasFewNodes c2 es2 x inner2 label2 d2 fs2) (sym ends.1) is2)) in
      let o = outcome g c d d2 es fs fs2 step inner inner2 label label2 (exact run) (wide_line g c d es fs step inner label is) (wide_line g c d2 es fs2 step inner2 label2 other) in
      record {
        configs = o.configurations;
        entries = o.entries;
        traces = λ i. h.traces i ++ shown (o.labels i);
        marks = λ i. h.marks i ++ marks_of (o.inside i) (o.labels i);
      }

  -- a line of a legal run is refused for want of memory alone
  not_refused : {lines before : List PStep} {c d : Config} {es fs : List Tree} {tr tr2 : Trace} {ms ms2 : List Mark} → IsLegalProcessRun g HasFewNodes q lines c es tr ms → (after : List PStep) (step : PStep) → lines ≡ before ++ step ∷ after
      → IsLegalProcessRun g HasFewNodes q before d fs tr2 ms2 → (fault : PFault) → IsRefused g d fs step fault → fault ≡ Mem
  not_refused {before = before} {d = d} {fs = fs} run after step e part fault refused =
      let k = cut_run run before after step e in
      let h = one_run k.legal part refl in
      answer g k.config k.after k.entries k.later step k.inner k.label fault (exact k.legal) k.is (subst (λ x. IsRefused g x k.entries step fault) (sym h.configs) (subst (λ x. IsRefused g d x step fault) (sym h.entries) refused))

  pub legal_is_not_refused : LegalIsNotRefused g q
  legal_is_not_refused lines tr number fault shows first = first.cause (not_refused shows.legal first.after first.line first.cut first.legal fault first.refused)

  pub has_one_trace : HasOneTrace g q
  has_one_trace lines tr other shows too = (one_run shows.legal too.legal refl).traces

  pub has_one_first : HasOneFirst g q
  has_one_first lines number other fault reason f h = by (cuts f.before h.before f.line h.line f.after h.after (sym f.cut ∙ h.cut)) where
    one_of : IsRefused g f.config f.entries f.line fault → IsRefused g f.config f.entries f.line reason → fault ≡ reason
    one_of a b = elim (cause g f.config f.entries f.line fault reason a b) [ inl e ↦ absurd (f.cause e) | inr r ↦ elim r [ inl e ↦ absurd (h.cause e) | inr e ↦ e ] ]

    by : Cuts f.before h.before f.line h.line → (number ≡ other) × (fault ≡ reason)
    by (one_cut befores lines_) =
        let o = one_run f.legal h.legal befores in
        let there : IsRefused g f.config f.entries f.line reason = subst (λ x. IsRefused g x f.entries f.line reason) (sym o.configs) (subst (λ x. IsRefused g h.config x f.line reason) (sym o.entries) (subst (λ x. IsRefused g h.config h.entries x reason) (sym lines_) h.refused)) in
        (f.counts ∙ ap (λ xs. length xs + 1) befores ∙ sym h.counts, one_of f.refused there)
    by (first_before rest is) = absurd (f.cause (not_refused h.legal rest f.line is f.legal fault f.refused))
    by (second_before rest is) = absurd (h.cause (not_refused f.legal rest h.line is h.legal reason h.refused))

  abbrev Answered : List PStep → Type 0
  Answered lines = ((tr : Trace) × IsShownByLines g q lines tr) ⊎ ((number : ℕ) × (fault : PFault) × IsFirstRefusedOfProcess g q lines number fault)

  some_from : (rest before : List PStep) (c : Config) (es : List Tree) (tr : Trace) (ms : List Mark) → IsLegalProcessRun g HasFewNodes q before c es tr ms → Answered (before ++ rest)
  some_from [] before c es tr ms run = inl (tr, record { config = c; entries = es; marks = ms; legal = subst (λ xs. IsLegalProcessRun g HasFewNodes q xs c es tr ms) (sym (append-nil before)) run })
  some_from (step ∷ rest) before c es tr ms run = elim (some g c es step (exact run)) [
    | inl h ↦ subst Answered (append_assoc before (step ∷ []) rest) (some_from rest (before ++ step ∷ []) h.2 h.3 (tr ++ shown h.1) (ms ++ marks_of h.0 h.1) (IsLegalProcessRun.further step h.0 h.1 run h.4))
    | inr h ↦ inr (
      length before + 1,
      h.0,
      record {
        before = before;
        line = step;
        after = rest;
        cut = refl;
        counts = refl;
        config = c;
        entries = es;
        trace = tr;
        marks = ms;
        legal = run;
        refused = h.1;
        cause = h.2;
      },
    )
  ]

  pub has_some_answer : EachIsLegalOrRefused g q
  has_some_answer lines = some_from lines [] (initial q) [] [] [] IsLegalProcessRun.starts
