-- A short run has one answer.
use Rattle.std.proofs.Common.{◌≡◌, ℕ, ◌+◌, List, [], ◌∷◌, ◌++◌, length, refl, sym, ap, ◌∙◌, subst, append_assoc}
use Rattle.std.proofs.lemmas.List.Elements.{All-nil}
use Rattle.sap_terms.specs.AdversaryFacts.{k_fact}
use Rattle.sap_terms.specs.Equations.{equations}
use Rattle.sap_terms.specs.Normal.{IsNormal}
use Rattle.sap_terms.specs.Signature.{Sig, HoldsBuiltins}
use Rattle.sap_terms.specs.Trace.{Trace, shown}
use Rattle.sap_terms.specs.Tree.{Tree}
use Rattle.sap_terms.specs.declared.fact.Fact.{Fact}
use Rattle.sap_terms.specs.declared.term.Term.{Term}
use Rattle.sap_rewrite.specs.Laws.{FormIsOne}
use Rattle.sap_process.specs.Configuration.{Config, CanGive}
use Rattle.sap_process.specs.Proc.{Proc}
use Rattle.sap_process.specs.Ready.{IsReady}
use Rattle.sap_runs.specs.Inner.{InnerAction}
use Rattle.sap_runs.specs.Limits.{HasFewNodes}
use Rattle.sap_runs.specs.Marks.{Mark, marks_of}
use Rattle.sap_runs.specs.declared.process_step.PStep.{PStep}
use Rattle.sap_runs.specs.declared.process_step.PStep.TheVariants as line
use Rattle.sap_runs.specs.declared.short_step.SStep.{SStep}
use Rattle.sap_runs.specs.declared.short_step.SStep.TheVariants as short
use Rattle.sap_lines.specs.Answers.{MatchesExactly, ProcessLinesHaveOneOutcome, RunsMatchExactly}
use Rattle.sap_lines.specs.Channels.{ChannelsAreOne}
use Rattle.sap_lines.specs.Lines.{IsProcessLine}
use Rattle.sap_lines.specs.Runs.{ProcessRunsCanBeWritten, SmallProcessLinesAreLines}
use Rattle.sap_intruder.specs.ShortLines.{IsGiven, IsShortLine, acts, takes, sends, knows}
use Rattle.sap_intruder.specs.ShortRuns.{IsLegalShortRun, starts, further, ShortRunsAreRuns}
use Rattle.sap_intruder.specs.Refusals.{IsShortRefused}
use Rattle.sap_intruder.specs.OneAnswer.{ShortRefusalsAreOne, ShortLinesAreNotRefused, IsFirstRefusedOfShort, AreOneShortRun, ShortRunsHaveOneEnd, LegalShortRunsAreNotRefused, FirstShortRefusalsAreOne}
use Rattle.sap_intruder.specs.declared.fill_fault.FillFault.{FillFault}
use Rattle.sap_intruder.proofs.Refused.{given_same, matches_one, sends_on}

-- lists that are put together at the end

pub pushed : {A : Type 0} (xs : List A) (x : A) → xs ++ x ∷ [] ≡ [] → ⊥
pushed [] x e = absurd (cc)
pushed (y ∷ xs) x e = absurd (cc)

no_cut : {A : Type 0} (xs ys : List A) (x : A) → [] ≡ xs ++ x ∷ ys → ⊥
no_cut [] ys x e = absurd (cc)
no_cut (z ∷ xs) ys x e = absurd (cc)

-- what stands last, and what stands before it
pub last_same : {A : Type 0} (xs ys : List A) (x y : A) → xs ++ x ∷ [] ≡ ys ++ y ∷ [] → (xs ≡ ys) × (x ≡ y)
last_same [] [] x y e = (refl, (let s : x ≡ y = cc in s))
last_same [] (z ∷ ys) x y e = absurd (let t : ys ++ y ∷ [] ≡ [] = cc in pushed ys y t)
last_same (w ∷ xs) [] x y e = absurd (let t : xs ++ x ∷ [] ≡ [] = cc in pushed xs x t)
last_same (w ∷ xs) (z ∷ ys) x y e =
    let tails : xs ++ x ∷ [] ≡ ys ++ y ∷ [] = cc in
    let h = last_same xs ys x y tails in
    let heads : w ≡ z = cc in
    ((λ i. heads i ∷ h.0 i), h.1)

data Last {A : Type 0} (xs : List A) : Type 0 where
  nothing : xs ≡ [] → Last xs
  behind : (ys : List A) (y : A) → xs ≡ ys ++ y ∷ [] → Last xs

last_of : {A : Type 0} (xs : List A) → Last xs
last_of [] = nothing refl
last_of (x ∷ xs) = elim (last_of xs) [ nothing e ↦ behind [] x (ap (λ zs. x ∷ zs) e) | behind ys y e ↦ behind (x ∷ ys) y (ap (λ zs. x ∷ zs) e) ]

-- two cuts of one list
pub data Cuts {A : Type 0} (xs ys : List A) (x y : A) : Type 0 where
  one_cut : xs ≡ ys → x ≡ y → Cuts xs ys x y
  first_before : (rest : List A) → ys ≡ xs ++ x ∷ rest → Cuts xs ys x y
  second_before : (rest : List A) → xs ≡ ys ++ y ∷ rest → Cuts xs ys x y

pub cuts : {A : Type 0} (xs ys : List A) (x y : A) (us vs : List A) → xs ++ x ∷ us ≡ ys ++ y ∷ vs → Cuts xs ys x y
cuts [] [] x y us vs e = one_cut refl (let s : x ≡ y = cc in s)
cuts [] (z ∷ ys) x y us vs e = first_before ys (let s : z ≡ x = cc in ap (λ w. w ∷ ys) s)
cuts (w ∷ xs) [] x y us vs e = second_before xs (let s : w ≡ y = cc in ap (λ z. z ∷ xs) s)
cuts (w ∷ xs) (z ∷ ys) x y us vs e =
    let tails : xs ++ x ∷ us ≡ ys ++ y ∷ vs = cc in
    let heads : w ≡ z = cc in
    elim (cuts xs ys x y us vs tails) [
      | one_cut a b ↦ one_cut (λ i. heads i ∷ a i) b
      | first_before rest a ↦ first_before rest (λ i. sym heads i ∷ a i)
      | second_before rest a ↦ second_before rest (λ i. heads i ∷ a i)
    ]

-- what a step does and leads to in two ways
record AreOneStep (inner more : List InnerAction) (label other : List Fact) (c d : Config) : Type 0 where
  inside : inner ≡ more
  labels : label ≡ other
  configurations : c ≡ d

module _ (one : FormIsOne) (channels : ChannelsAreOne) (outcome : ProcessLinesHaveOneOutcome) (wide : SmallProcessLinesAreLines) (g : Sig) (c : Config) (m : MatchesExactly g c []) where
  -- the line behind entries behind which it matches exactly
  line_one : (es : List Tree) → MatchesExactly g c es → (s : PStep) (d d2 : Config) (fs fs2 : List Tree) (inner inner2 : List InnerAction) (label label2 : List Fact)
      → IsProcessLine g HasFewNodes c es s inner label d fs → IsProcessLine g HasFewNodes c es s inner2 label2 d2 fs2 → AreOneStep inner inner2 label label2 d d2
  line_one es exact s d d2 fs fs2 inner inner2 label label2 h k =
      let o = outcome g c d d2 es fs fs2 s inner inner2 label label2 exact (wide g c d es fs s inner label h) (wide g c d2 es fs2 s inner2 label2 k) in
      record { inside = o.inside; labels = o.labels; configurations = o.configurations }

  act_one : (s : PStep) (d d2 : Config) (fs : List Tree) (inner inner2 : List InnerAction) (label label2 : List Fact) → IsProcessLine g HasFewNodes c [] s inner label d fs
      → IsShortLine g HasFewNodes c (short.Act s) inner2 label2 d2 → AreOneStep inner inner2 label label2 d d2
  act_one s d d2 fs inner inner2 label label2 h (acts {fs = fs2} stands k) = line_one [] m s d d2 fs fs2 inner inner2 label label2 h k

  in_one : (t : ℕ) (u : Term) (x : Tree) (d d2 : Config) (fs : List Tree) (inner inner2 : List InnerAction) (label label2 : List Fact) → IsGiven g c u x
      → IsProcessLine g HasFewNodes c (x ∷ []) (line.In t 0) inner label d fs → IsShortLine g HasFewNodes c (short.In t u) inner2 label2 d2 → AreOneStep inner inner2 label label2 d d2
  in_one t u x d d2 fs inner inner2 label label2 given h (takes {x = y} {fs = fs2} too k) =
      let there : IsProcessLine g HasFewNodes c (x ∷ []) (line.In t 0) inner2 label2 d2 fs2 =
      subst (λ (v : Tree). IsProcessLine g HasFewNodes c (v ∷ []) (line.In t 0) inner2 label2 d2 fs2) (given_same one g c u y x too given) k in
      line_one (x ∷ []) (matches_one one g c m x given.gives) (line.In t 0) d d2 fs fs2 inner inner2 label label2 h there

  send_one : (t : ℕ) (x : Tree) (d d2 : Config) (fs : List Tree) (inner inner2 : List InnerAction) (label label2 : List Fact) → CanGive g c x
      → IsProcessLine g HasFewNodes c (x ∷ []) (line.Send t 0) inner label d fs → IsShortLine g HasFewNodes c (short.Send t) inner2 label2 d2 → AreOneStep inner inner2 label label2 d d2
  send_one t x d d2 fs inner inner2 label label2 gives h (sends {x = y} {fs = fs2} too k) =
      let same : y ≡ x = channels g c t y x (sends_on one g c t y d2 inner2 label2 fs2 k) (sends_on one g c t x d inner label fs h) in
      let there : IsProcessLine g HasFewNodes c (x ∷ []) (line.Send t 0) inner2 label2 d2 fs2 =
      subst (λ (v : Tree). IsProcessLine g HasFewNodes c (v ∷ []) (line.Send t 0) inner2 label2 d2 fs2) same k in
      line_one (x ∷ []) (matches_one one g c m x gives) (line.Send t 0) d d2 fs fs2 inner inner2 label label2 h there

  know_one : (u : Term) (x : Tree) (d2 : Config) (inner2 : List InnerAction) (label2 : List Fact) → IsGiven g c u x → IsShortLine g HasFewNodes c (short.Know u) inner2 label2 d2
      → AreOneStep [] inner2 (k_fact x ∷ []) label2 c d2
  know_one u x _ _ _ given (knows {x = y} too) = record { inside = refl; labels = ap (λ v. k_fact v ∷ []) (given_same one g c u x y given too); configurations = refl }

  step_one : (s : SStep) (d d2 : Config) (inner inner2 : List InnerAction) (label label2 : List Fact) → IsShortLine g HasFewNodes c s inner label d → IsShortLine g HasFewNodes c s inner2 label2 d2
      → AreOneStep inner inner2 label label2 d d2
  step_one _ d d2 inner inner2 label label2 (acts {s = s} {fs = fs} stands h) k = act_one s d d2 fs inner inner2 label label2 h k
  step_one _ d d2 inner inner2 label label2 (takes {t = t} {u = u} {x = x} {fs = fs} given h) k = in_one t u x d d2 fs inner inner2 label label2 given h k
  step_one _ d d2 inner inner2 label label2 (sends {t = t} {x = x} {fs = fs} gives h) k = send_one t x d d2 fs inner inner2 label label2 gives h k
  step_one _ _ d2 _ inner2 _ label2 (knows {u = u} {x = x} given) k = know_one u x d2 inner2 label2 given k

-- a step of a legal short run, behind the steps before it
record CutRun (g : Sig) (q : Proc) (before : List SStep) (step : SStep) : Type 0 where
  config : Config
  trace : Trace
  marks : List Mark
  legal : IsLegalShortRun g HasFewNodes q before config trace marks
  inner : List InnerAction
  label : List Fact
  after : Config
  is : IsShortLine g HasFewNodes config step inner label after

cut_run : {g : Sig} {q : Proc} {run : List SStep} {c : Config} {tr : Trace} {ms : List Mark} → IsLegalShortRun g HasFewNodes q run c tr ms → (before after : List SStep) (step : SStep)
    → run ≡ before ++ step ∷ after → CutRun g q before step
cut_run starts before after step e = absurd (no_cut before after step e)
cut_run {g = g} {q = q} (further {ss = ss} {c = c} {d = d} {tr = tr} {marks = ms} last inner label run is) before after step e = by (last_of after) (λ ys k. cut_run run before ys step k) where
  by : Last after → ((ys : List SStep) → ss ≡ before ++ step ∷ ys → CutRun g q before step) → CutRun g q before step
  by (nothing none) more =
      let ends = last_same ss before last step (e ∙ ap (λ zs. before ++ step ∷ zs) none) in
      record {
        config = c;
        trace = tr;
        marks = ms;
        legal = subst (λ xs. IsLegalShortRun g HasFewNodes q xs c tr ms) ends.0 run;
        inner = inner;
        label = label;
        after = d;
        is = subst (λ x. IsShortLine g HasFewNodes c x inner label d) ends.1 is;
      }
  by (behind ys y there) more = more ys (last_same ss (before ++ step ∷ ys) last y (e ∙ ap (λ zs. before ++ step ∷ zs) there ∙ sym (append_assoc before (step ∷ ys) (y ∷ [])))).0

module _ (one : FormIsOne) (channels : ChannelsAreOne) (outcome : ProcessLinesHaveOneOutcome) (wide : SmallProcessLinesAreLines) (runs : ShortRunsAreRuns HasFewNodes)
    (written : ProcessRunsCanBeWritten) (exactly : RunsMatchExactly) (g : Sig) (q : Proc) (hold : HoldsBuiltins g) (ready : IsReady g q) where
  -- what lines match behind a legal short run, they match exactly
  exact : {ss : List SStep} {c : Config} {tr : Trace} {ms : List Mark} → IsLegalShortRun g HasFewNodes q ss c tr ms → MatchesExactly g c []
  exact {ss = ss} {c = c} {tr = tr} {ms = ms} run =
      let w = written g q c tr (runs g q ss c tr ms run) in
      let m = exactly g q w.0 c w.1 tr w.2 hold ready w.3 in
      record { patterns_are = m.patterns_are; sorts = m.sorts; entries = All-nil (IsNormal (equations g)); facts = m.facts }

  one_run : {ss more : List SStep} {c d : Config} {tr tr2 : Trace} {ms ms2 : List Mark} → IsLegalShortRun g HasFewNodes q ss c tr ms → IsLegalShortRun g HasFewNodes q more d tr2 ms2
      → ss ≡ more → AreOneShortRun c d tr tr2 ms ms2
  one_run starts starts e = record { configurations = refl; traces = refl; marks = refl }
  one_run starts (further {ss = more} step inner label run is) e = absurd (pushed more step (sym e))
  one_run (further {ss = ss} step inner label run is) starts e = absurd (pushed ss step e)
  one_run (further {ss = ss} {c = c} {d = d} {tr = tr} {marks = ms} step inner label run is) (further {ss = more} {c = c2} {d = d2} {tr = tr2} {marks = ms2} step2 inner2 label2 run2 is2) e =
      let ends = last_same ss more step step2 e in
      let h = one_run run run2 ends.0 in
      let other : IsShortLine g HasFewNodes c step inner2 label2 d2 =
      subst (λ x. IsShortLine g HasFewNodes x step inner2 label2 d2) (sym h.configurations) (subst (λ x. IsShortLine g HasFewNodes c2 x inner2 label2 d2) (sym ends.1) is2) in
      let o = step_one one channels outcome wide g c (exact run) step d d2 inner inner2 label label2 is other in
      record {
        configurations = o.configurations;
        traces = λ i. h.traces i ++ shown (o.labels i);
        marks = λ i. h.marks i ++ marks_of (o.inside i) (o.labels i);
      }

  module _ (apart : ShortLinesAreNotRefused) (causes : ShortRefusalsAreOne) where
    -- a step of a legal short run isn't refused
    not_refused : {ss before : List SStep} {c d : Config} {tr tr2 : Trace} {ms ms2 : List Mark} → IsLegalShortRun g HasFewNodes q ss c tr ms → (after : List SStep) (step : SStep)
        → ss ≡ before ++ step ∷ after → IsLegalShortRun g HasFewNodes q before d tr2 ms2 → (fault : FillFault) → IsShortRefused g d step fault → ⊥
    not_refused {before = before} {d = d} run after step e part fault refused =
        let k = cut_run run before after step e in
        let h = one_run k.legal part refl in
        apart g k.config k.after step k.inner k.label fault (exact k.legal) k.is (subst (λ x. IsShortRefused g x step fault) (sym h.configurations) refused)

    one_first : (ss : List SStep) (number other : ℕ) (fault reason : FillFault) → IsFirstRefusedOfShort g q ss number fault → IsFirstRefusedOfShort g q ss other reason
        → (number ≡ other) × (fault ≡ reason)
    one_first ss number other fault reason f h = by (cuts f.before h.before f.step h.step f.after h.after (sym f.cut ∙ h.cut)) where
      by : Cuts f.before h.before f.step h.step → (number ≡ other) × (fault ≡ reason)
      by (one_cut befores steps) =
          let o = one_run f.legal h.legal befores in
          let there : IsShortRefused g f.config f.step reason = subst (λ x. IsShortRefused g x f.step reason) (sym o.configurations) (subst (λ x. IsShortRefused g h.config x reason) (sym steps) h.refused) in
          (f.counts ∙ ap (λ xs. length xs + 1) befores ∙ sym h.counts, causes g f.config f.step fault reason f.refused there)
      by (first_before rest is) = absurd (not_refused h.legal rest f.step is f.legal fault f.refused)
      by (second_before rest is) = absurd (not_refused f.legal rest h.step is h.legal reason h.refused)

-- what a short run's one answer stands on
pub record Premises : Type 0 where
  pub one : FormIsOne
  pub channels : ChannelsAreOne
  pub outcome : ProcessLinesHaveOneOutcome
  pub wide : SmallProcessLinesAreLines
  pub runs : ShortRunsAreRuns HasFewNodes
  pub written : ProcessRunsCanBeWritten
  pub exactly : RunsMatchExactly

pub one_end : Premises → ShortRunsHaveOneEnd
one_end l g p ss c d tr other ms more hold ready h k = one_run l.one l.channels l.outcome l.wide l.runs l.written l.exactly g p hold ready h k refl

pub legal_is_not_refused : Premises → ShortLinesAreNotRefused → ShortRefusalsAreOne → LegalShortRunsAreNotRefused
legal_is_not_refused l apart causes g p ss c tr ms number fault hold ready h first =
    not_refused l.one l.channels l.outcome l.wide l.runs l.written l.exactly g p hold ready apart causes h first.after first.step first.cut first.legal fault first.refused

pub one_first_refusal : Premises → ShortLinesAreNotRefused → ShortRefusalsAreOne → FirstShortRefusalsAreOne
one_first_refusal l apart causes g p ss number other fault reason hold ready h k =
    one_first l.one l.channels l.outcome l.wide l.runs l.written l.exactly g p hold ready apart causes ss number other fault reason h k
