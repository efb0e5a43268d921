-- Each run of a process can be written.
use Rattle.std.proofs.Common.{◌≡◌, ℕ, List, [], ◌∷◌, ◌++◌, Some, sym, ap, ◌∙◌, subst, append-nil, arith}
use Rattle.std.specs.Prelude.{All, Contains, slice_index_or}
use Rattle.std.proofs.Common.{inl, inr}
use Rattle.std.proofs.lemmas.List.Elements.{All-nil, All-cons, All-head, Contains-push, Contains-append_left, Contains-push_cases}
use Rattle.sap_terms.specs.Deduce.{IsDerived, a_public, a_name, given, applied, IsDerivation}
use Rattle.sap_terms.specs.Equal.{same}
use Rattle.sap_terms.specs.Equations.{equations}
use Rattle.sap_terms.specs.Signature.{Sig}
use Rattle.sap_terms.specs.Trace.{Trace, shown}
use Rattle.sap_terms.specs.Tree.{Tree, public, fresh}
use Rattle.sap_terms.specs.declared.fact.Fact.{Fact}
use Rattle.sap_rewrite.specs.Laws.{EachHasForm, FormIsOne, FormsDecide}
use Rattle.sap_process.specs.Configuration.{Config, CanGive, initial}
use Rattle.sap_process.specs.Proc.{Proc}
use Rattle.sap_process.specs.ProcessSteps.{ProcessStep, ProcessRun}
use Rattle.sap_runs.specs.Inner.{InnerAction}
use Rattle.sap_runs.specs.Limits.{AnySize}
use Rattle.sap_runs.specs.Marks.{Mark, marks_of}
use Rattle.sap_runs.specs.declared.process_step.PStep.{PStep}
use Rattle.sap_runs.specs.declared.process_step.PStep.TheVariants as line
use Rattle.sap_lines.specs.Lines.{IsProcessLine, left_open}
use Rattle.sap_lines.specs.Runs.{IsLegalProcessRun, ProcessRunsCanBeWritten, GivenTermsCanBeEntered}
use Rattle.sap_lines.proofs.Named.{numbers_of, bindings_of, bindings_of-vars, bindings_of-agrees}
use Rattle.sap_terms.proofs.PlainLaws.Items.{got_contained}

-- the term that the adversary has to give for a step is an entry
abbrev HasNeeded : {g : Sig} {c d : Config} {label : List Fact} → ProcessStep g c label d → List Tree → Type 0
HasNeeded (ProcessStep.outputs_on {k = k} t e f h i) es = Contains es k
HasNeeded (ProcessStep.inputs {x = x} t σ e h k) es = Contains es x
HasNeeded (ProcessStep.inputs_on {x = x} t σ e h k i) es = Contains es x
HasNeeded (ProcessStep.knows x h) es = Contains es x
HasNeeded _ es = Unit {0}

-- a line for a step, and the entries behind it: those before, what was sent, and the adversary's names
record LineOf (g : Sig) (c : Config) (label : List Fact) (d : Config) (es : List Tree) : Type 0 where
  step : PStep
  inner : List InnerAction
  entries : List Tree
  is : IsProcessLine g AnySize c es step inner label d entries
  sent : ((x : Tree) → Contains c.frame x → Contains es x) → (x : Tree) → Contains d.frame x → Contains entries x
  owned : ((n : ℕ) → Contains c.own n → Contains es (fresh n)) → (n : ℕ) → Contains d.own n → Contains entries (fresh n)

sent_more : (frame es : List Tree) (y : Tree) → ((x : Tree) → Contains frame x → Contains es x) → (x : Tree) → Contains (frame ++ y ∷ []) x → Contains (es ++ y ∷ []) x
sent_more frame es y h x m = elim (Contains-push_cases frame y x m) [
  | inl k ↦ Contains-append_left es (y ∷ []) x (h x k)
  | inr is ↦ subst (Contains (es ++ y ∷ [])) is (Contains-push es y)
]

owned_more : (own : List ℕ) (es : List Tree) (k : ℕ) → ((n : ℕ) → Contains own n → Contains es (fresh n)) → (n : ℕ) → Contains (own ++ k ∷ []) n → Contains (es ++ fresh k ∷ []) (fresh n)
owned_more own es k h n m = elim (Contains-push_cases own k n m) [
  | inl j ↦ Contains-append_left es (fresh k ∷ []) (fresh n) (h n j)
  | inr is ↦ subst (λ i. Contains (es ++ fresh k ∷ []) (fresh i)) is (Contains-push es (fresh k))
]

module _ (each : EachHasForm) (one_form : FormIsOne) (decide : FormsDecide) where
  -- a line that adds no entry
  abbrev plain : (g : Sig) (c d : Config) (label : List Fact) (es : List Tree) (step : PStep) (inner : List InnerAction) → IsProcessLine g AnySize c es step inner label d es → ((x : Tree) → Contains d.frame x → Contains c.frame x) → ((n : ℕ) → Contains d.own n → Contains c.own n) → LineOf g c label d es
  plain g c d label es step inner is h k = record { step = step; inner = inner; entries = es; is = is; sent = λ s x m. s x (h x m); owned = λ o n m. o n (k n m) }

  step_line : (g : Sig) (c d : Config) (label : List Fact) (step : ProcessStep g c label d) (es : List Tree) → HasNeeded step es → LineOf g c label d es
  step_line g c d label (ProcessStep.ends t e) es needed = plain g c d label es _ _ (IsProcessLine.ends t e) (λ x m. m) (λ n m. m)
  step_line g c d label (ProcessStep.splits t e) es needed = plain g c d label es _ _ (IsProcessLine.splits t e) (λ x m. m) (λ n m. m)
  step_line g c d label (ProcessStep.copies t e) es needed = plain g c d label es _ _ (IsProcessLine.copies t e) (λ x m. m) (λ n m. m)
  step_line g c d label (ProcessStep.makes_name t n e u) es needed = plain g c d label es _ _ (IsProcessLine.makes_name t n e u) (λ x m. m) (λ n m. m)
  step_line g c d label (ProcessStep.outputs {n = n} t e f) es needed = record {
    step = line.Out t;
    inner = [];
    entries = es ++ n ∷ [];
    is = IsProcessLine.outputs t e f (λ n h. tt);
    sent = sent_more c.frame es n;
    owned = λ o k m. Contains-append_left es (n ∷ []) (fresh k) (o k m);
  }
  step_line g c d label (ProcessStep.outputs_on {k = k} {u = u} t e f h i) es needed =
      let at = got_contained es k needed in
      record {
        step = line.Send t at.0;
        inner = [];
        entries = es ++ u ∷ [];
        is = IsProcessLine.outputs_on t at.0 e at.1 f i (λ n h. tt);
        sent = sent_more c.frame es u;
        owned = λ o j m. Contains-append_left es (u ∷ []) (fresh j) (o j m);
      }
  step_line g c d label (ProcessStep.inputs {x = x} t σ e h k) es needed =
      let at = got_contained es x needed in plain g c d label es _ _ (IsProcessLine.inputs t at.0 σ e at.1 k) (λ x m. m) (λ n m. m)
  step_line g c d label (ProcessStep.inputs_on {x = x} t σ e h k i) es needed =
      let at = got_contained es x needed in plain g c d label es _ _ (IsProcessLine.inputs_on t at.0 σ e at.1 k i (λ n h. tt)) (λ x m. m) (λ n m. m)
  step_line g c d label (ProcessStep.meets s r σ e f h k) es needed = plain g c d label es _ _ (IsProcessLine.meets s r σ e f h k (λ n h. tt)) (λ x m. m) (λ n m. m)
  step_line g c d label (ProcessStep.agrees {m = m} {n = n} t e h) es needed =
      let x = each (equations g) m in
      let y = each (equations g) n in
      plain g c d label es _ _ (IsProcessLine.agrees t e x.1 y.1 ((decide (equations g) m n x.0 y.0 x.1 y.1).0 h) (λ n h. tt)) (λ x m. m) (λ n m. m)
  step_line g c d label (ProcessStep.differs {m = m} {n = n} t e h) es needed =
      let x = each (equations g) m in
      let y = each (equations g) n in
      plain g c d label es _ _ (IsProcessLine.differs t e x.1 y.1 (λ is. h ((decide (equations g) m n x.0 y.0 x.1 y.1).1 is)) (λ n h. tt)) (λ x m. m) (λ n m. m)
  step_line g c d label (ProcessStep.shows t e h) es needed = plain g c d label es _ _ (IsProcessLine.shows t e h (λ n h. tt)) (λ x m. m) (λ n m. m)
  step_line g c d label (ProcessStep.inserts t e f h) es needed = plain g c d label es _ _ (IsProcessLine.inserts t e f h (λ n h. tt)) (λ x m. m) (λ n m. m)
  step_line g c d label (ProcessStep.deletes t e f) es needed = plain g c d label es _ _ (IsProcessLine.deletes t e f (λ n h. tt)) (λ x m. m) (λ n m. m)
  step_line g c d label (ProcessStep.finds t e f h) es needed = plain g c d label es _ _ (IsProcessLine.finds t e f h (λ n h. tt)) (λ x m. m) (λ n m. m)
  step_line g c d label (ProcessStep.misses t e f h) es needed = plain g c d label es _ _ (IsProcessLine.misses t e f h (λ n h. tt)) (λ x m. m) (λ n m. m)
  step_line g c d label (ProcessStep.locks t e f h) es needed = plain g c d label es _ _ (IsProcessLine.locks t e f h (λ n h. tt)) (λ x m. m) (λ n m. m)
  step_line g c d label (ProcessStep.unlocks t e f) es needed = plain g c d label es _ _ (IsProcessLine.unlocks t e f (λ n h. tt)) (λ x m. m) (λ n m. m)
  step_line g c d label (ProcessStep.embeds {l = l} {e = a} {r = r} t ks σ left acts right e h k i j m) es needed =
      let vs = left_open l a r in
      plain g c d label es _ _ (IsProcessLine.embeds t ks (bindings_of σ vs) σ left acts right e h (bindings_of-vars σ vs) (bindings_of-agrees σ vs) k i j m (λ n h. tt)) (λ x m. m) (λ n m. m)
  step_line g c d label (ProcessStep.adversary_makes n u) es needed = record {
    step = line.Name n;
    inner = [];
    entries = es ++ fresh n ∷ [];
    is = IsProcessLine.names n u;
    sent = λ s x m. Contains-append_left es (fresh n ∷ []) x (s x m);
    owned = owned_more c.own es n;
  }
  step_line g c d label (ProcessStep.knows x h) es needed = let at = got_contained es x needed in plain g c d label es _ _ (IsProcessLine.knows at.0 x at.1) (λ x m. m) (λ n m. m)

  -- lines that write a run, whose entries have what was sent and the adversary's names
  record Written (g : Sig) (p : Proc) (c : Config) (tr : Trace) : Type 0 where
    lines : List PStep
    es : List Tree
    marks : List Mark
    run : IsLegalProcessRun g AnySize p lines c es tr marks
    sent : (x : Tree) → Contains c.frame x → Contains es x
    owned : (n : ℕ) → Contains c.own n → Contains es (fresh n)

  -- the same, with these terms among the entries
  record Having (g : Sig) (p : Proc) (c : Config) (tr : Trace) (ts : List Tree) : Type 0 where
    w : Written g p c tr
    all : All (Contains w.es) ts

  -- one more line of the adversary
  add_line : (g : Sig) (p : Proc) (c : Config) (tr : Trace) (t : Tree) (ts : List Tree) (h : Having g p c tr ts) (step : PStep) → IsProcessLine g AnySize c h.w.es step [] [] c (h.w.es ++ t ∷ []) → Having g p c tr (t ∷ ts)
  add_line g p c tr t ts h step is =
      let w = h.w in
      let es = w.es ++ t ∷ [] in
      record {
        w = record {
          lines = w.lines ++ step ∷ [];
          es = es;
          marks = w.marks ++ [];
          run = subst (λ i. IsLegalProcessRun g AnySize p (w.lines ++ step ∷ []) c es i (w.marks ++ [])) (append-nil tr) (IsLegalProcessRun.further step [] [] w.run is);
          sent = λ x m. Contains-append_left w.es (t ∷ []) x (w.sent x m);
          owned = λ n m. Contains-append_left w.es (t ∷ []) (fresh n) (w.owned n m);
        };
        all = All-cons (Contains es) t ts (Contains-push w.es t) (λ k d below. Contains-append_left w.es (t ∷ []) (slice_index_or ts k d) (h.all k d below));
      }

  -- a term that is an entry already
  entered : (g : Sig) (p : Proc) (c : Config) (tr : Trace) (t : Tree) (ts : List Tree) (h : Having g p c tr ts) → Contains h.w.es t → Having g p c tr (t ∷ ts)
  entered g p c tr t ts h m = record { w = h.w; all = All-cons (Contains h.w.es) t ts m h.all }

  derive_next : (g : Sig) (p : Proc) (c : Config) (tr : Trace) (t : Tree) (ts : List Tree) → Having g p c tr ts → IsDerived g c.own c.frame ts t → Having g p c tr (t ∷ ts)
  derive_next g p c tr t ts h (a_public n e) =
      let is : public n ≡ t = sym e in
      add_line g p c tr t ts h (line.Public n) (subst (λ x. IsProcessLine g AnySize c h.w.es (line.Public n) [] [] c (h.w.es ++ x ∷ [])) is (IsProcessLine.writes n))
  derive_next g p c tr t ts h (a_name n m e) = entered g p c tr t ts h (subst (Contains h.w.es) (sym e) (h.w.owned n m))
  derive_next g p c tr t ts h (given m) = entered g p c tr t ts h (h.w.sent t m)
  derive_next g p c tr t ts h (applied f us free arity all form) =
      let at = numbers_of h.w.es us (λ k d below. All_contained ts h.w.es h.all (slice_index_or us k d) (all k d below)) in
      add_line g p c tr t ts h (line.Apply f at.0) (IsProcessLine.applies f at.0 us t free (arity ∙ ap Some (sym at.2)) at.1 form tt)
    where
      All_contained : (xs ys : List Tree) → All (Contains ys) xs → (x : Tree) → Contains xs x → Contains ys x
      All_contained xs ys h x (k, below, is) = subst (Contains ys) is (h k x below)

  derive_all : (g : Sig) (p : Proc) (c : Config) (tr : Trace) → Written g p c tr → (ts : List Tree) → IsDerivation g c.own c.frame ts → Having g p c tr ts
  derive_all g p c tr w [] d = record { w = w; all = All-nil (Contains w.es) }
  derive_all g p c tr w (t ∷ ts) d = derive_next g p c tr t ts (derive_all g p c tr w ts d.1) d.0

  -- a term that the adversary can give is entered
  record WithTerm (g : Sig) (p : Proc) (c : Config) (tr : Trace) (x : Tree) : Type 0 where
    w : Written g p c tr
    has : Contains w.es x

  derive : (g : Sig) (p : Proc) (c : Config) (tr : Trace) → Written g p c tr → (x : Tree) → CanGive g c x → WithTerm g p c tr x
  derive g p c tr w x d =
      let r = d.deducible in
      let h = derive_all g p c tr w (r.form ∷ r.earlier) r.derivation in
      let is : r.form ≡ x = one_form (equations g) x r.form x r.is_form (record { equal = same; normal = d.normal }) in
      record { w = h.w; has = subst (Contains h.w.es) is (All-head (Contains h.w.es) r.form r.earlier h.all) }

  -- the lines and one more for the step
  write : (g : Sig) (p : Proc) (c d : Config) (tr : Trace) (label : List Fact) (w : Written g p c tr) (step : ProcessStep g c label d) → HasNeeded step w.es → Written g p d (tr ++ shown label)
  write g p c d tr label w step needed =
      let l = step_line g c d label step w.es needed in
      record {
        lines = w.lines ++ l.step ∷ [];
        es = l.entries;
        marks = w.marks ++ marks_of l.inner label;
        run = IsLegalProcessRun.further l.step l.inner label w.run l.is;
        sent = l.sent w.sent;
        owned = l.owned w.owned;
      }

  write_step : (g : Sig) (p : Proc) (c d : Config) (tr : Trace) (label : List Fact) → Written g p c tr → ProcessStep g c label d → Written g p d (tr ++ shown label)
  write_step g p c d tr label w (ProcessStep.outputs_on {k = k} t e f h i) = let v = derive g p c tr w k h in write g p c d tr label v.w (ProcessStep.outputs_on t e f h i) v.has
  write_step g p c d tr label w (ProcessStep.inputs {x = x} t σ e h k) = let v = derive g p c tr w x h in write g p c d tr label v.w (ProcessStep.inputs t σ e h k) v.has
  write_step g p c d tr label w (ProcessStep.inputs_on {x = x} t σ e h k i) = let v = derive g p c tr w x h in write g p c d tr label v.w (ProcessStep.inputs_on t σ e h k i) v.has
  write_step g p c d tr label w (ProcessStep.knows x h) = let v = derive g p c tr w x h in write g p c d tr label v.w (ProcessStep.knows x h) v.has
  write_step g p c d tr label w step = write g p c d tr label w step tt

  write_run : (g : Sig) (p : Proc) (c : Config) (tr : Trace) → ProcessRun g (initial p) c tr → Written g p c tr
  write_run g p c tr ProcessRun.starts = record { lines = []; es = []; marks = []; run = IsLegalProcessRun.starts; sent = λ x m. absurd (omega (arith, m.1)); owned = λ n m. absurd (omega (arith, m.1)) }
  write_run g p d full (ProcessRun.further {c = c} {tr = tr} {label = label} run step) = write_step g p c d tr label (write_run g p c tr run) step

  pub runs_can_be_written : ProcessRunsCanBeWritten
  runs_can_be_written g p c tr run = let w = write_run g p c tr run in (w.lines, w.es, w.marks, w.run)

  pub given_terms_can_be_entered : GivenTermsCanBeEntered
  given_terms_can_be_entered g p c tr x run h = let v = derive g p c tr (write_run g p c tr run) x h in (v.w.lines, v.w.es, v.w.marks, v.w.run, v.has)
