-- A pattern matched against a good term, and a guard against a fact.
use Rattle.std.proofs.Common.{◌≡◌, ℕ, ◌<◌, List, [], ◌∷◌, ◌++◌, Bool, true, false, length, Option, Some, None, refl, sym, ap, subst, ◌∙◌, if◌then◌else◌, append_assoc}
use Rattle.std.proofs.lemmas.List.{append-nil}
use Rattle.std.specs.Bool.{Decides}
use Rattle.std.specs.Str.{bytes_eq}
use Rattle.std.proofs.lemmas.Slice.Eq.{bytes_eq-Decides}
use Rattle.sap_judge.proofs.Decided.{decides_tree}
use Rattle.sap_judge.proofs.Goods.{good_message}
use Rattle.sap_formula.specs.Messages.{AreAnyMessages, HasMessages, IsAnyMessage}
use Rattle.sap_judge.proofs.Reading.{Ends, Gives, Reads, Start, ends_same, filled_gives, given_reads}
use Rattle.sap_formula.specs.Checked.{AreCheckedTerms, IsCheckedTerm, find_binder}
use Rattle.sap_formula.specs.Truth.{Times}
use Rattle.sap_judge.specs.Guards.{Action}
use Rattle.sap_judge.specs.code.Ready.{Place, atom_of, marked, marked_all, noted, seen_behind, slot_at}
use Rattle.sap_match.specs.Atoms.{Held, held_term, held_time}
use Rattle.sap_match.specs.Matched.{State, filled, guarded, matched, matched_all, onward, taken_by}
use Rattle.sap_formula.specs.declared.binder.Binder.{Binder}
use Rattle.sap_formula.specs.declared.binder.Binder.TheVariants.{Message, Time}
use Rattle.sap_terms.specs.Choice.{Choice, fits_sort, instance, instances}
use Rattle.sap_terms.specs.Same.{same_tree}
use Rattle.sap_terms.specs.Signature.{Sig}
use Rattle.sap_terms.specs.Trace.{Trace}
use Rattle.sap_terms.specs.Tree.{Tree, Trees, apply, fresh, more, none, public, trees_of, variable}
use Rattle.sap_terms.specs.declared.fact.Fact.{Fact}

-- the variables of a guard are bound
pub record IsCheckedAction (g : Sig) (scope : List Binder) (a : Action) : Type 0 where
  pub terms : AreCheckedTerms g scope (trees_of a.pattern.args)
  pub timed : find_binder scope a.time ≡ Some (Time a.time)

-- what a guard says of a fact and its time
abbrev pub Fits : Action → Fact → ℕ → Choice → Times → Type 0
Fits a x k σ τ = (instances σ (trees_of a.pattern.args) ≡ trees_of x.args) × (τ a.time ≡ k)

module _ (g : Sig) (tr : Trace) (scope : List Binder) (p : Place) where
  ends_map : (seen later : List (List ℕ)) (held : List Held) (B C : Choice → Times → Type 0) (out : List Held) → ((σ : Choice) (τ : Times) → B σ τ → C σ τ) → ((σ : Choice) (τ : Times) → C σ τ → B σ τ) → Ends g tr scope p seen later held B out → Ends g tr scope p seen later held C out
  ends_map seen later held B C out f h e = record {
    new = e.new;
    is = e.is;
    start = e.start;
    back = λ σ τ a. let r = e.back σ τ a in (r.0, f σ τ r.1);
    forth = λ σ τ a c. e.forth σ τ a (h σ τ c);
  }

  ends_then : (seen mid later : List (List ℕ)) (held : List Held) (B C : Choice → Times → Type 0) (between out : List Held) → Ends g tr scope p seen mid held B between → Ends g tr scope p mid later between C out → Ends g tr scope p seen later held (λ σ τ. B σ τ × C σ τ) out
  ends_then seen mid later held B C between out d e = record {
    new = d.new ++ e.new;
    is = e.is ∙ ap (λ z. z ++ e.new) d.is ∙ append_assoc held d.new e.new;
    start = e.start;
    back = λ σ τ a. let r = e.back σ τ a in let q = d.back σ τ r.0 in (q.0, (q.1, r.1));
    forth = λ σ τ a c. e.forth σ τ (d.forth σ τ a c.0) c.1;
  }

  reads_map : (seen later : List (List ℕ)) (held : List Held) (rest : List (Option ℕ)) (B C : Choice → Times → Type 0) (o : Option State) → ((σ : Choice) (τ : Times) → B σ τ → C σ τ) → ((σ : Choice) (τ : Times) → C σ τ → B σ τ) → Reads g tr scope p seen later held rest B o → Reads g tr scope p seen later held rest C o
  reads_map seen later held rest B C None f h r = λ σ τ fit a c. r σ τ fit a (h σ τ c)
  reads_map seen later held rest B C (Some s) f h r = (r.0, ends_map seen later held B C s.held f h r.1)

  reads_then : (seen mid later : List (List ℕ)) (held : List Held) (marks rest : List (Option ℕ)) (B C : Choice → Times → Type 0) (o : Option State) (f : State → Option State) → Reads g tr scope p seen mid held marks B o → ((s : State) → s.marks ≡ marks → Start g tr scope p mid s.held → Reads g tr scope p mid later s.held rest C (f s)) → Reads g tr scope p seen later held rest (λ σ τ. B σ τ × C σ τ) (onward o f)
  reads_then seen mid later held marks rest B C None f r k = λ σ τ fit a c. r σ τ fit a c.0
  reads_then seen mid later held marks rest B C (Some s) f r k = at (f s) (k s r.0 r.1.start) where
    at : (o : Option State) → Reads g tr scope p mid later s.held rest C o → Reads g tr scope p seen later held rest (λ σ τ. B σ τ × C σ τ) o
    at None q = λ σ τ fit a c. q σ τ fit (r.1.forth σ τ a c.0) c.1
    at (Some u) q = (q.0, ends_then seen mid later held B C s.held u.held r.1 q.1)

  reads_if : (seen later : List (List ℕ)) (held : List Held) (rest : List (Option ℕ)) (b : Bool) (A : Type 0) (C : Choice → Times → Type 0) (o : Option State) → Decides b A → Reads g tr scope p seen later held rest C o → Reads g tr scope p seen later held rest (λ σ τ. A × C σ τ) (if b then o else None)
  reads_if seen later held rest true A C o d r = reads_map seen later held rest C (λ σ τ. A × C σ τ) o (λ σ τ c. (d.0 refl, c)) (λ σ τ c. c.1) r
  reads_if seen later held rest false A C o d r = λ σ τ fit a c. let e = d.1 c.0 in absurd (cc)

  -- a leaf that is the same wherever it stands
  reads_leaf : (seen : List (List ℕ)) (s : State) (rest : List (Option ℕ)) (t u : Tree) → s.marks ≡ rest → Start g tr scope p seen s.held → Reads g tr scope p seen seen s.held rest (λ σ τ. t ≡ u) (if same_tree t u then Some s else None)
  reads_leaf seen s rest t u e start =
      let r = reads_if seen seen s.held rest (same_tree t u) (t ≡ u) (λ σ τ. Unit {0}) (Some s) (decides_tree t u) (e, ends_same g tr scope p seen s.held (λ σ τ. Unit {0}) start (λ σ τ a. tt)) in
      reads_map seen seen s.held rest (λ σ τ. (t ≡ u) × Unit {0}) (λ σ τ. t ≡ u) (if same_tree t u then Some s else None) (λ σ τ c. c.0) (λ σ τ c. (c, tt)) r

  mutual
    pub matched_reads : (q : Tree) → IsCheckedTerm g scope q → (t : Tree) → IsAnyMessage g t → (seen : List (List ℕ)) (s : State) (rest : List (Option ℕ)) → s.marks ≡ (marked p seen q).marks ++ rest → Start g tr scope p seen s.held → Reads g tr scope p seen (marked p seen q).seen s.held rest (λ σ τ. instance σ q ≡ t) (matched q t s)
    matched_reads (variable v) c t d seen s rest e start =
        let o = filled (slot_at p seen v.name) (held_term t) (fits_sort v.sort t) s.held in
        let r = filled_gives g tr scope p (Message v) c seen s.held start (held_term t) (fits_sort v.sort t) (λ x. good_message g v.sort t d x) (λ σ τ fit x. let y : σ v ≡ t = cc in subst (λ z. fits_sort v.sort z ≡ true) y (fit v c)) in
        subst (λ z. Reads g tr scope p seen (marked p seen (variable v)).seen s.held rest (λ σ τ. σ v ≡ t) (taken_by z s.held (held_term t) (fits_sort v.sort t))) (sym e)
        (reads_map seen (marked p seen (variable v)).seen s.held rest (λ σ τ. held_term t ≡ held_term (σ v)) (λ σ τ. σ v ≡ t) (taken_by (slot_at p seen v.name ∷ rest) s.held (held_term t) (fits_sort v.sort t)) (λ σ τ x. cc) (λ σ τ x. ap (λ z. held_term z) (sym x))
        (given_reads g tr scope p seen (marked p seen (variable v)).seen s.held rest (λ σ τ. held_term t ≡ held_term (σ v)) o r))
    matched_reads (public n) c t d seen s rest e start = reads_leaf seen s rest (public n) t e start
    matched_reads (fresh k) c t d seen s rest e start = reads_leaf seen s rest (fresh k) t e start
    matched_reads (apply f qs) c (apply h ts) d seen s rest e start =
        let r = matched_all_reads qs c.2 ts (d.0, d.1.1, d.2.1) seen s rest e start in
        reads_map seen (marked_all p seen qs).seen s.held rest (λ σ τ. (f ≡ h) × (instances σ qs ≡ ts)) (λ σ τ. apply f (instances σ qs) ≡ apply h ts) (if bytes_eq f h then matched_all qs ts s else None) (λ σ τ x. λ i. apply (x.0 i) (x.1 i)) (λ σ τ x. (cc, cc))
        (reads_if seen (marked_all p seen qs).seen s.held rest (bytes_eq f h) (f ≡ h) (λ σ τ. instances σ qs ≡ ts) (matched_all qs ts s) (bytes_eq-Decides f h) r)
    matched_reads (apply f qs) c (variable v) d seen s rest e start = λ σ τ fit a x. absurd (cc)
    matched_reads (apply f qs) c (public v) d seen s rest e start = λ σ τ fit a x. absurd (cc)
    matched_reads (apply f qs) c (fresh v) d seen s rest e start = λ σ τ fit a x. absurd (cc)

    pub matched_all_reads : (qs : Trees) → AreCheckedTerms g scope qs → (ts : Trees) → AreAnyMessages g ts → (seen : List (List ℕ)) (s : State) (rest : List (Option ℕ)) → s.marks ≡ (marked_all p seen qs).marks ++ rest → Start g tr scope p seen s.held → Reads g tr scope p seen (marked_all p seen qs).seen s.held rest (λ σ τ. instances σ qs ≡ ts) (matched_all qs ts s)
    matched_all_reads none c none d seen s rest e start = (e, ends_same g tr scope p seen s.held (λ σ τ. none ≡ none) start (λ σ τ a. refl))
    matched_all_reads none c (more t ts) d seen s rest e start = λ σ τ fit a x. absurd (cc)
    matched_all_reads (more q qs) c none d seen s rest e start = λ σ τ fit a x. absurd (cc)
    matched_all_reads (more q qs) c (more t ts) d seen s rest e start =
        let mid = (marked p seen q).seen in
        let later = (marked_all p (marked p seen q).seen qs).seen in
        let marks = (marked_all p (marked p seen q).seen qs).marks in
        let first = matched_reads q c.0 t (d.0.0, d.1.0, d.2.0) seen s (marks ++ rest) (e ∙ append_assoc (marked p seen q).marks marks rest) start in
        reads_map seen later s.held rest (λ σ τ. (instance σ q ≡ t) × (instances σ qs ≡ ts)) (λ σ τ. more (instance σ q) (instances σ qs) ≡ more t ts) (onward (matched q t s) (matched_all qs ts)) (λ σ τ x. λ i. more (x.0 i) (x.1 i)) (λ σ τ x. (cc, cc))
        (reads_then seen mid later s.held (marks ++ rest) rest (λ σ τ. instance σ q ≡ t) (λ σ τ. instances σ qs ≡ ts) (matched q t s) (matched_all qs ts) first (λ u m k. matched_all_reads qs c.1 ts (d.0.1, d.1.1, d.2.1) mid u rest m k))

  gives_map : (seen later : List (List ℕ)) (held : List Held) (B C : Choice → Times → Type 0) (o : Option (List Held)) → ((σ : Choice) (τ : Times) → B σ τ → C σ τ) → ((σ : Choice) (τ : Times) → C σ τ → B σ τ) → Gives g tr scope p seen later held B o → Gives g tr scope p seen later held C o
  gives_map seen later held B C None f h r = λ σ τ fit a c. r σ τ fit a (h σ τ c)
  gives_map seen later held B C (Some out) f h r = ends_map seen later held B C out f h r

  -- the time of a guard
  time_gives : (m : List ℕ) → find_binder scope m ≡ Some (Time m) → (k : ℕ) → k < length tr → (seen : List (List ℕ)) (held : List Held) → Start g tr scope p seen held → Gives g tr scope p seen (noted (slot_at p seen m) seen m) held (λ σ τ. τ m ≡ k) (filled (slot_at p seen m) (held_time k) true held)
  time_gives m found k below seen held start =
      gives_map seen (noted (slot_at p seen m) seen m) held (λ σ τ. held_time k ≡ held_time (τ m)) (λ σ τ. τ m ≡ k) (filled (slot_at p seen m) (held_time k) true held) (λ σ τ x. cc) (λ σ τ x. ap (λ z. held_time z) (sym x)) (filled_gives g tr scope p (Time m) found seen held start (held_time k) true (λ x. below) (λ σ τ fit x. refl))

  -- a guard
  pub guarded_gives : (a : Action) → IsCheckedAction g scope a → (x : Fact) → HasMessages g x → (k : ℕ) → k < length tr → (seen : List (List ℕ)) (held : List Held) → Start g tr scope p seen held → Gives g tr scope p seen (seen_behind p seen a) held (Fits a x k) (guarded (atom_of p seen a) x k held)
  guarded_gives a c x good k below seen held start =
      let args = trees_of a.pattern.args in
      let marks = (marked_all p seen (trees_of a.pattern.args)).marks in
      at (matched_all args (trees_of x.args) (record { marks = marks; held = held })) (matched_all_reads args c.terms (trees_of x.args) good seen (record { marks = marks; held = held }) [] (sym (append-nil marks)) start) where
        at : (o : Option State) → Reads g tr scope p seen (marked_all p seen (trees_of a.pattern.args)).seen held [] (λ σ τ. instances σ (trees_of a.pattern.args) ≡ trees_of x.args) o → Gives g tr scope p seen (seen_behind p seen a) held (Fits a x k) (onward o (λ s. filled (slot_at p (marked_all p seen (trees_of a.pattern.args)).seen a.time) (held_time k) true s.held))
        at None r = λ σ τ fit b f. r σ τ fit b f.0
        at (Some s) r = in_case (filled (slot_at p (marked_all p seen (trees_of a.pattern.args)).seen a.time) (held_time k) true s.held) (time_gives a.time c.timed k below (marked_all p seen (trees_of a.pattern.args)).seen s.held r.1.start) where
          in_case : (o : Option (List Held)) → Gives g tr scope p (marked_all p seen (trees_of a.pattern.args)).seen (seen_behind p seen a) s.held (λ σ τ. τ a.time ≡ k) o → Gives g tr scope p seen (seen_behind p seen a) held (Fits a x k) o
          in_case None q = λ σ τ fit b f. q σ τ fit (r.1.forth σ τ b f.0) f.1
          in_case (Some out) q = ends_then seen (marked_all p seen (trees_of a.pattern.args)).seen (seen_behind p seen a) held (λ σ τ. instances σ (trees_of a.pattern.args) ≡ trees_of x.args) (λ σ τ. τ a.time ≡ k) s.held out r.1 q
