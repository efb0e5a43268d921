-- The tests of atoms made ready decide their truth.
use Rattle.std.proofs.Common.{◌≡◌, ℕ, List, [], ◌∷◌, ◌++◌, Bool, true, false, Option, Some, None, refl, sym, ap, subst, ◌∙◌, if◌then◌else◌, append_assoc, arith}
use Rattle.std.proofs.lemmas.List.{append-nil}
use Rattle.std.specs.Prelude.{slice_get}
use Rattle.std.specs.Bool.{Decides}
use Rattle.std.specs.List.{AllZip, list_any}
use Rattle.std.specs.Str.{bytes_eq}
use Rattle.std.proofs.lemmas.Slice.Eq.{bytes_eq-Decides}
use Rattle.sap_judge.proofs.Decided.{along, args-equal}
use Rattle.sap_judge.proofs.Entering.{Here}
use Rattle.sap_judge.proofs.Goods.{message_good}
use Rattle.sap_judge.proofs.Members.{each_map}
use Rattle.sap_formula.specs.Messages.{AreAnyMessages, HasMessages, IsAnyMessage}
use Rattle.sap_judge.proofs.Patterns.{matched_all_reads, matched_reads}
use Rattle.sap_judge.proofs.Plain.{FormulaLaws}
use Rattle.sap_judge.specs.Reasons.{Suits, value}
use Rattle.sap_judge.proofs.Reading.{Reads, Start, get_kept}
use Rattle.sap_judge.proofs.Tests.{decides_each_any}
use Rattle.std.proofs.lemmas.Bool.Decides.{Decides-and}
use Rattle.sap_formula.specs.Checked.{AreCheckedTerms, IsCheckedTerm, binder_name, find_binder}
use Rattle.sap_formula.specs.Truth.{AnyIn, Shows, Times, facts_at}
use Rattle.sap_match.specs.Atoms.{Held, held_term}
use Rattle.sap_judge.specs.code.Ready.{Layers, atom_of, inside, marked, marked_all, noted, slot_at, slot_in}
use Rattle.sap_match.specs.Matched.{State, Two, agreed, agreed_all, behind, fits_atom, is_there, matched, matched_all, next_term, onward, term_in, time_at, time_held}
use Rattle.sap_formula.specs.declared.binder.Binder.{Binder}
use Rattle.sap_formula.specs.declared.binder.Binder.TheVariants.{Message, Time}
use Rattle.sap_terms.specs.Choice.{Choice, instance, instances}
use Rattle.sap_terms.specs.Equal.{IsTheoryEqual}
use Rattle.sap_terms.specs.Equations.{equations}
use Rattle.sap_terms.specs.Message.{IsMessageTrace}
use Rattle.sap_terms.specs.Signature.{Sig}
use Rattle.sap_terms.specs.Trace.{Trace}
use Rattle.sap_terms.specs.Tree.{Tree, Trees, apply, fresh, more, none, public, trees_of, variable}
use Rattle.sap_terms.specs.declared.fact.Fact.{Fact}
use Rattle.sap_terms.specs.declared.var.Var.{Var}

-- a matching that tells whether A, and leaves these marks
abbrev Tells : List (Option ℕ) → Type 0 → Option State → Type 0
Tells rest A None = A → ⊥
Tells rest A (Some s) = (s.marks ≡ rest) × A

tells_decides : (rest : List (Option ℕ)) (A : Type 0) (o : Option State) → Tells rest A o → Decides (is_there o) A
tells_decides rest A None r = (λ h. absurd (cc), λ a. absurd (r a))
tells_decides rest A (Some s) r = (λ h. r.1, λ a. refl)

-- a comparison that tells it
abbrev Compares : List (Option ℕ) → List (Option ℕ) → Type 0 → Option Two → Type 0
Compares l r A None = A → ⊥
Compares l r A (Some t) = (t.left ≡ l) × (t.right ≡ r) × A

compares_decides : (l r : List (Option ℕ)) (A : Type 0) (o : Option Two) → Compares l r A o → Decides (is_there o) A
compares_decides l r A None c = (λ h. absurd (cc), λ a. absurd (c a))
compares_decides l r A (Some t) c = (λ h. c.2, λ a. refl)

on_right : (l r x : List (Option ℕ)) (A B : Type 0) (o : Option State) → Tells r A o → (A → B) → (B → A) → x ≡ l → Compares l r B (onward o (λ s. Some (record { left = x; right = s.marks })))
on_right l r x A B None t f h e = λ b. t (h b)
on_right l r x A B (Some s) t f h e = (e, t.0, f t.1)

on_left : (l r x : List (Option ℕ)) (A B : Type 0) (o : Option State) → Tells l A o → (A → B) → (B → A) → x ≡ r → Compares l r B (onward o (λ s. Some (record { left = s.marks; right = x })))
on_left l r x A B None t f h e = λ b. t (h b)
on_left l r x A B (Some s) t f h e = (t.0, e, f t.1)

compares_map : (l r : List (Option ℕ)) (A B : Type 0) (o : Option Two) → (A → B) → (B → A) → Compares l r A o → Compares l r B o
compares_map l r A B None f h c = λ b. c (h b)
compares_map l r A B (Some t) f h c = (c.0, c.1, f c.2)

compares_if : (l r : List (Option ℕ)) (b : Bool) (A B : Type 0) (o : Option Two) → Decides b A → Compares l r B o → Compares l r (A × B) (if b then o else None)
compares_if l r true A B o d c = compares_map l r B (A × B) o (λ x. (d.0 refl, x)) (λ x. x.1) c
compares_if l r false A B o d c = λ x. let e = d.1 x.0 in absurd (cc)

compares_then : (l r l' r' : List (Option ℕ)) (A B : Type 0) (o : Option Two) (f : Two → Option Two) → Compares l' r' A o → ((t : Two) → t.left ≡ l' → t.right ≡ r' → Compares l r B (f t)) → Compares l r (A × B) (onward o f)
compares_then l r l' r' A B None f c k = λ x. c x.0
compares_then l r l' r' A B (Some t) f c k = compares_map l r B (A × B) (f t) (λ x. (c.2, x)) (λ x. x.1) (k t c.0 c.1)

module _ (laws : FormulaLaws) (g : Sig) (tr : Trace) (m : IsMessageTrace g tr) (scope : List Binder) (layers : Layers) (held : List Held) (σ : Choice) (τ : Times) (here : Here g tr scope layers held σ τ) where
  -- each variable has a slot, so that none is filled
  mutual
    marked_none : (t : Tree) → IsCheckedTerm g scope t → (marked (inside layers) [] t).seen ≡ []
    marked_none (variable v) c = ap (λ o. noted o [] v.name) (here.slotted (Message v) c).1
    marked_none (public n) c = refl
    marked_none (fresh k) c = refl
    marked_none (apply f ts) c = marked_all_none ts c.2

    marked_all_none : (ts : Trees) → AreCheckedTerms g scope ts → (marked_all (inside layers) [] ts).seen ≡ []
    marked_all_none none c = refl
    marked_all_none (more t ts) c = ap (λ z. (marked_all (inside layers) z ts).seen) (marked_none t c.0) ∙ marked_all_none ts c.1

  marks_more : (t : Tree) (ts : Trees) (l : List (Option ℕ)) → IsCheckedTerm g scope t → (marked_all (inside layers) [] (more t ts)).marks ++ l ≡ (marked (inside layers) [] t).marks ++ ((marked_all (inside layers) [] ts).marks ++ l)
  marks_more t ts l c =
      ap (λ z. ((marked (inside layers) [] t).marks ++ (marked_all (inside layers) z ts).marks) ++ l) (marked_none t c) ∙ append_assoc (marked (inside layers) [] t).marks (marked_all (inside layers) [] ts).marks l

  start_here : Start g tr scope (inside layers) [] held
  start_here = record { counted = omega (arith, here.counted); filled = here.filled }

  reads_tell : (later : List (List ℕ)) (rest : List (Option ℕ)) (C : Choice → Times → Type 0) (o : Option State) → later ≡ [] → Reads g tr scope (inside layers) [] later held rest C o → Tells rest (C σ τ) o
  reads_tell later rest C None e r = λ c. r σ τ here.fitting here.agrees c
  reads_tell later rest C (Some s) e r =
      (r.0, (r.1.back σ τ (λ b k i l. subst (λ z. slice_get z k ≡ Some (value σ τ b)) (sym r.1.is) (get_kept held r.1.new k (value σ τ b) (here.agrees b k i (ap (λ z. slot_at (inside layers) z (binder_name b)) (sym e) ∙ l))))).1)

  term_tells : (t : Tree) → IsCheckedTerm g scope t → (u : Tree) → IsAnyMessage g u → (marks rest : List (Option ℕ)) → marks ≡ (marked (inside layers) [] t).marks ++ rest → Tells rest (instance σ t ≡ u) (matched t u (record { marks = marks; held = held }))
  term_tells t c u d marks rest e =
      reads_tell (marked (inside layers) [] t).seen rest (λ σ τ. instance σ t ≡ u) (matched t u (record { marks = marks; held = held })) (marked_none t c) (matched_reads g tr scope (inside layers) t c u d [] (record { marks = marks; held = held }) rest e start_here)

  terms_tell : (ts : Trees) → AreCheckedTerms g scope ts → (us : Trees) → AreAnyMessages g us → (marks rest : List (Option ℕ)) → marks ≡ (marked_all (inside layers) [] ts).marks ++ rest → Tells rest (instances σ ts ≡ us) (matched_all ts us (record { marks = marks; held = held }))
  terms_tell ts c us d marks rest e =
      reads_tell (marked_all (inside layers) [] ts).seen rest (λ σ τ. instances σ ts ≡ us) (matched_all ts us (record { marks = marks; held = held })) (marked_all_none ts c) (matched_all_reads g tr scope (inside layers) ts c us d [] (record { marks = marks; held = held }) rest e start_here)

  -- times
  pub time_is : (i : List ℕ) → find_binder scope i ≡ Some (Time i) → time_at (slot_in layers i) held ≡ τ i
  time_is i c = let s = here.slotted (Time i) c in ap (λ o. time_at o held) s.1 ∙ ap time_held (here.agrees (Time i) s.0 c s.1)

  -- an action atom
  fact_decided : (f : Fact) (i : List ℕ) → AreCheckedTerms g scope (trees_of f.args) → (x : Fact) → HasMessages g x → Decides (fits_atom f.name (atom_of (inside layers) [] (record { pattern = f; time = i })) held x) (Shows (equations g) σ f x)
  fact_decided f i c x d =
      let marks = (marked_all (inside layers) [] (trees_of f.args)).marks in
      let o = matched_all (trees_of f.args) (trees_of x.args) (record { marks = marks; held = held }) in
      let same = instances σ (trees_of f.args) ≡ trees_of x.args in
      let args = AllZip (λ s t. IsTheoryEqual (equations g) (instance σ s) t) f.args x.args in
      Decides-and (bytes_eq f.name x.name) (is_there o) (bytes_eq-Decides f.name x.name)
      (along (is_there o) same args (args-equal (equations g) σ f.args x.args) (laws.args g scope σ f.args x.args c here.normal d.2) (tells_decides [] same o (terms_tell (trees_of f.args) c (trees_of x.args) d marks [] (sym (append-nil marks)))))

  pub action_decided : (f : Fact) (i : List ℕ) → AreCheckedTerms g scope (trees_of f.args) → find_binder scope i ≡ Some (Time i) → Decides (list_any (fits_atom f.name (atom_of (inside layers) [] (record { pattern = f; time = i })) held) (facts_at tr (time_at (atom_of (inside layers) [] (record { pattern = f; time = i })).time held))) (AnyIn (Shows (equations g) σ f) (facts_at tr (τ i)))
  action_decided f i c t =
      let a = atom_of (inside layers) [] (record { pattern = f; time = i }) in
      let e : time_at (slot_at (inside layers) (marked_all (inside layers) [] (trees_of f.args)).seen i) held ≡ τ i = ap (λ z. time_at (slot_at (inside layers) z i) held) (marked_all_none (trees_of f.args) c) ∙ time_is i t in
      let d = decides_each_any (fits_atom f.name a held) (Shows (equations g) σ f) (facts_at tr (τ i)) (each_map (HasMessages g) (λ x. Decides (fits_atom f.name a held x) (Shows (equations g) σ f x)) (facts_at tr (τ i)) (λ x d. fact_decided f i c x d) (laws.facts g tr m (τ i))) in
      subst (λ k. Decides (list_any (fits_atom f.name (atom_of (inside layers) [] (record { pattern = f; time = i })) held) (facts_at tr k)) (AnyIn (Shows (equations g) σ f) (facts_at tr (τ i)))) (sym e) d

  -- an equation
  var_good : (v : Var) → find_binder scope v.name ≡ Some (Message v) → IsAnyMessage g (σ v)
  var_good v c =
      let s = here.slotted (Message v) c in
      let r = here.filled (Message v) s.0 c s.1 in
      let a = here.agrees (Message v) s.0 c s.1 in
      let b = r.1 in
      let is : r.0 ≡ held_term (σ v) = cc in
      message_good g v.sort (σ v) (subst (λ h. Suits g tr (Message v) h) is r.2)

  next_is : (v : Var) → find_binder scope v.name ≡ Some (Message v) → (marks rest : List (Option ℕ)) → marks ≡ slot_in layers v.name ∷ rest → next_term marks held ≡ Some (σ v)
  next_is v c marks rest e =
      let s = here.slotted (Message v) c in
      ap (λ z. next_term z held) e ∙ ap (λ o. next_term (o ∷ rest) held) s.1 ∙ ap term_in (here.agrees (Message v) s.0 c s.1)

  mutual
    agreed_compares : (s : Tree) → IsCheckedTerm g scope s → (t : Tree) → IsCheckedTerm g scope t → (x : Two) (l r : List (Option ℕ)) → x.left ≡ (marked (inside layers) [] s).marks ++ l → x.right ≡ (marked (inside layers) [] t).marks ++ r → Compares l r (instance σ s ≡ instance σ t) (agreed s t x held)
    agreed_compares (variable v) c t d x l r e h =
        let o = matched t (σ v) (record { marks = x.right; held = held }) in
        subst (λ z. Compares l r (σ v ≡ instance σ t) (onward z (λ u. onward (matched t u (record { marks = x.right; held = held })) (λ s. Some (record { left = behind x.left; right = s.marks }))))) (sym (next_is v c x.left l e))
        (on_right l r (behind x.left) (instance σ t ≡ σ v) (σ v ≡ instance σ t) o (term_tells t d (σ v) (var_good v c) x.right r h) (λ q. sym q) (λ q. sym q) (ap behind e))
    agreed_compares (public n) c t d x l r e h =
        on_right l r x.left (instance σ t ≡ public n) (public n ≡ instance σ t) (matched t (public n) (record { marks = x.right; held = held })) (term_tells t d (public n) (tt, tt, laws.leaves.of_public_name (equations g) n) x.right r h) (λ q. sym q) (λ q. sym q) e
    agreed_compares (fresh n) c t d x l r e h =
        on_right l r x.left (instance σ t ≡ fresh n) (fresh n ≡ instance σ t) (matched t (fresh n) (record { marks = x.right; held = held })) (term_tells t d (fresh n) (tt, tt, laws.leaves.of_fresh_name (equations g) n) x.right r h) (λ q. sym q) (λ q. sym q) e
    agreed_compares (apply f ss) c (variable v) d x l r e h =
        let o = matched (apply f ss) (σ v) (record { marks = x.left; held = held }) in
        subst (λ z. Compares l r (instance σ (apply f ss) ≡ σ v) (onward z (λ u. onward (matched (apply f ss) u (record { marks = x.left; held = held })) (λ s. Some (record { left = s.marks; right = behind x.right }))))) (sym (next_is v d x.right r h))
        (on_left l r (behind x.right) (instance σ (apply f ss) ≡ σ v) (instance σ (apply f ss) ≡ σ v) o (term_tells (apply f ss) c (σ v) (var_good v d) x.left l e) (λ q. q) (λ q. q) (ap behind h))
    agreed_compares (apply f ss) c (apply k ts) d x l r e h =
        compares_map l r ((f ≡ k) × (instances σ ss ≡ instances σ ts)) (apply f (instances σ ss) ≡ apply k (instances σ ts)) (if bytes_eq f k then agreed_all ss ts x held else None) (λ q. λ i. apply (q.0 i) (q.1 i)) (λ q. (cc, cc))
        (compares_if l r (bytes_eq f k) (f ≡ k) (instances σ ss ≡ instances σ ts) (agreed_all ss ts x held) (bytes_eq-Decides f k) (agreed_all_compares ss c.2 ts d.2 x l r e h))
    agreed_compares (apply f ss) c (public n) d x l r e h = λ q. absurd (cc)
    agreed_compares (apply f ss) c (fresh n) d x l r e h = λ q. absurd (cc)

    agreed_all_compares : (ss : Trees) → AreCheckedTerms g scope ss → (ts : Trees) → AreCheckedTerms g scope ts → (x : Two) (l r : List (Option ℕ)) → x.left ≡ (marked_all (inside layers) [] ss).marks ++ l → x.right ≡ (marked_all (inside layers) [] ts).marks ++ r → Compares l r (instances σ ss ≡ instances σ ts) (agreed_all ss ts x held)
    agreed_all_compares none c none d x l r e h = (e, h, refl)
    agreed_all_compares none c (more t ts) d x l r e h = λ q. absurd (cc)
    agreed_all_compares (more s ss) c none d x l r e h = λ q. absurd (cc)
    agreed_all_compares (more s ss) c (more t ts) d x l r e h =
        let left = (marked_all (inside layers) [] ss).marks ++ l in
        let right = (marked_all (inside layers) [] ts).marks ++ r in
        compares_map l r ((instance σ s ≡ instance σ t) × (instances σ ss ≡ instances σ ts)) (more (instance σ s) (instances σ ss) ≡ more (instance σ t) (instances σ ts)) (onward (agreed s t x held) (λ y. agreed_all ss ts y held)) (λ q. λ i. more (q.0 i) (q.1 i)) (λ q. (cc, cc))
        (compares_then l r left right (instance σ s ≡ instance σ t) (instances σ ss ≡ instances σ ts) (agreed s t x held) (λ y. agreed_all ss ts y held) (agreed_compares s c.0 t d.0 x left right (e ∙ marks_more s ss l c.0) (h ∙ marks_more t ts r d.0)) (λ y a b. agreed_all_compares ss c.1 ts d.1 y l r a b))

  pub equal_decided : (s t : Tree) → IsCheckedTerm g scope s → IsCheckedTerm g scope t → Decides (is_there (agreed s t (record { left = (marked (inside layers) [] s).marks; right = (marked (inside layers) [] t).marks }) held)) (IsTheoryEqual (equations g) (instance σ s) (instance σ t))
  equal_decided s t c d =
      let l = (marked (inside layers) [] s).marks in
      let r = (marked (inside layers) [] t).marks in
      let o = agreed s t (record { left = l; right = r }) held in
      let same = instance σ s ≡ instance σ t in
      let e = laws.decide (equations g) (instance σ s) (instance σ t) (laws.terms g scope σ s c here.normal) (laws.terms g scope σ t d here.normal) in
      along (is_there o) same (IsTheoryEqual (equations g) (instance σ s) (instance σ t)) (λ x. e.1 x) (λ x. e.0 x) (compares_decides [] [] same o (agreed_compares s c t d (record { left = l; right = r }) [] [] (sym (append-nil l)) (sym (append-nil r))))
