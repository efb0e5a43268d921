-- Each sentence on a trace with one more time.
use Rattle.std.proofs.Common.{◌≡◌, ℕ, ◌<◌, refl, sym, subst, ◌∙◌, inl, inr, arith}
use Rattle.sap_restrict.proofs.Longer.{IsExtension, IsLonger, same}
use Rattle.sap_shapes.specs.ReservedFacts.{delete_fact, eq_fact, event_fact, init_fact, input_fact, insert_fact, is_in_fact, is_not_set_fact, lock_fact, not_eq_fact, unlock_fact}
use Rattle.sap_restrict.specs.Sentences.{IsFound, IsServed, Says}
use Rattle.sap_restrict.specs.Stands.{IsUnlocked, IsStored, IsUnset, IsUsable}
use Rattle.sap_restrict.specs.code.Deeds.{Deed, deletes, differs, equals, finds, happens, inserts, knows, locks, misses, starts, takes}
use Rattle.sap_restrict.specs.declared.which.Which.{Which}
use Rattle.sap_restrict.specs.declared.which.Which.TheVariants.{Eq, In, InEv, Init, Lock, NotEq, NotIn}
use Rattle.sap_terms.specs.AdversaryFacts.{k_fact}
use Rattle.sap_terms.specs.Equal.{IsTheoryEqual}
use Rattle.sap_terms.specs.Equations.{Equations}
use Rattle.sap_terms.specs.Tree.{Tree}
use Rattle.sap_terms.specs.declared.fact.Fact.{Fact}

-- what each sentence asks of a deed at the next time
abbrev pub Asks : Equations → (ℕ → Fact → Type 0) → Deed → Which → Type 0
Asks e H d Init = d ≡ starts → (i : ℕ) → H i init_fact → ⊥
Asks e H d Eq = (x y : Tree) → d ≡ equals x y → IsTheoryEqual e x y
Asks e H d NotEq = (x y : Tree) → d ≡ differs x y → IsTheoryEqual e x y → ⊥
Asks e H d In = (x v : Tree) → d ≡ finds x v → (j : ℕ) × IsStored H x v j
Asks e H d NotIn = (x : Tree) → d ≡ misses x → IsUnset H x
Asks e H d Lock = (m x : Tree) → d ≡ locks m x → IsUnlocked H x
Asks e H d InEv = (x : Tree) → d ≡ takes x → (j : ℕ) × IsUsable H x j

module _ (H H' : ℕ → Fact → Type 0) (n : ℕ) (l : IsExtension H H' n) where
  found_back : (x v : Tree) (i j : ℕ) → i < n → IsFound H' i x v j → IsFound H i x v j
  found_back x v i j b w =
      let c = w.before in
      record {
        inserted = l.same j (insert_fact x v) (omega arith) w.inserted;
        before = c;
        deletes = λ k s. w.deletes k (l.old k (delete_fact x) s);
        inserts = λ z k s. w.inserts z k (l.old k (insert_fact x z) s);
      }

  served_back : (x : Tree) (i j : ℕ) → i < n → IsServed H' i x j → IsServed H i x j
  served_back x i j b w =
      let c = w.before in
      record {
        known = l.same j (k_fact x) (omega arith) w.known;
        before = c;
        last = λ y k s. w.last y k (l.old k (k_fact y) s);
        events = λ k s. w.events k (l.old k event_fact s);
        inputs = λ y k s. w.inputs y k (l.old k (input_fact y) s);
      }

  -- what a sentence says of the longer trace it says of the trace
  pub says_back : (e : Equations) (w : Which) → Says e H' w → Says e H w
  says_back e Init h = λ i j a b. h i j (l.old i init_fact a) (l.old j init_fact b)
  says_back e Eq h = λ x y i a. h x y i (l.old i (eq_fact x y) a)
  says_back e NotEq h = λ x y i a. h x y i (l.old i (not_eq_fact x y) a)
  says_back e In h = λ x v i a. let r = h x v i (l.old i (is_in_fact x v) a) in (r.0, found_back x v i r.0 (l.below i (is_in_fact x v) a) r.1)
  says_back e NotIn h = λ x y i j a b o.
      let r = h x y i j (l.old i (is_not_set_fact x) a) (l.old j (insert_fact x y) b) o in
      let m = l.below i (is_not_set_fact x) a in
      let q = r.3 in
      (r.0, l.same r.0 (delete_fact x) (omega arith) r.1, r.2, r.3)
  says_back e Lock h = λ k m x i j a b o.
      let r = h k m x i j (l.old i (lock_fact k x) a) (l.old j (lock_fact m x) b) o in
      let c = l.below j (lock_fact m x) b in
      let q = r.3 in
      (r.0, l.same r.0 (unlock_fact k x) (omega arith) r.1, r.2, r.3)
  says_back e InEv h = λ x i a. let r = h x i (l.old i (input_fact x) a) in (r.0, served_back x i r.0 (l.below i (input_fact x) a) r.1)

module _ (H H' : ℕ → Fact → Type 0) (n : ℕ) (d : Deed) (l : IsLonger H H' n d) where
  stored_last : (x v : Tree) (j : ℕ) → IsFound H' n x v j → IsStored H x v j
  stored_last x v j w =
      let c = w.before in
      record {
        inserted = same H H' n d l j (insert_fact x v) refl c w.inserted;
        deletes = λ k s. let b = l.below k (delete_fact x) s in elim (w.deletes k (l.old k (delete_fact x) s)) [ inl u ↦ u | inr u ↦ absurd (omega arith) ];
        inserts = λ z k s. let b = l.below k (insert_fact x z) s in elim (w.inserts z k (l.old k (insert_fact x z) s)) [ inl u ↦ u | inr u ↦ absurd (omega arith) ];
      }

  usable_last : (x : Tree) (j : ℕ) → IsServed H' n x j → IsUsable H x j
  usable_last x j w =
      let c = w.before in
      record {
        known = same H H' n d l j (k_fact x) refl c w.known;
        last = λ y k s. let b = l.below k (k_fact y) s in elim (w.last y k (l.old k (k_fact y) s)) [ inl u ↦ u | inr u ↦ absurd (omega arith) ];
        events = λ k s. let b = l.below k event_fact s in elim (w.events k (l.old k event_fact s)) [ inl u ↦ u | inr u ↦ absurd (omega arith) ];
        inputs = λ y k s. let b = l.below k (input_fact y) s in elim (w.inputs y k (l.old k (input_fact y) s)) [ inl u ↦ u | inr u ↦ absurd (omega arith) ];
      }

  -- it asks this of the last time
  pub says_last : (e : Equations) (w : Which) → Says e H' w → Asks e H d w
  says_last e Init h = λ q i a.
      let p = h n i (l.new init_fact q tt) (l.old i init_fact a) in
      let b = l.below i init_fact a in
      omega arith
  says_last e Eq h = λ x y q. h x y n (l.new (eq_fact x y) q tt)
  says_last e NotEq h = λ x y q. h x y n (l.new (not_eq_fact x y) q tt)
  says_last e In h = λ x v q. let r = h x v n (l.new (is_in_fact x v) q tt) in (r.0, stored_last x v r.0 r.1)
  says_last e NotIn h = λ x q y j a.
      let r = h x y n j (l.new (is_not_set_fact x) q tt) (l.old j (insert_fact x y) a) (l.below j (insert_fact x y) a) in
      (r.0, same H H' n d l r.0 (delete_fact x) refl r.3 r.1, r.2)
  says_last e Lock h = λ m x q k i a.
      let r = h k m x i n (l.old i (lock_fact k x) a) (l.new (lock_fact m x) q tt) (l.below i (lock_fact k x) a) in
      (r.0, same H H' n d l r.0 (unlock_fact k x) refl r.3 r.1, r.2)
  says_last e InEv h = λ x q. let r = h x n (l.new (input_fact x) q tt) in (r.0, usable_last x r.0 r.1)

  found_on : (x v : Tree) (i j : ℕ) → i < n → IsFound H i x v j → IsFound H' i x v j
  found_on x v i j b w = record {
    inserted = l.old j (insert_fact x v) w.inserted;
    before = w.before;
    deletes = λ k s. elim (l.cases k (delete_fact x) refl s) [ inl u ↦ w.deletes k u | inr u ↦ let p = u.0 in inr (omega arith) ];
    inserts = λ z k s. elim (l.cases k (insert_fact x z) refl s) [ inl u ↦ w.inserts z k u | inr u ↦ let p = u.0 in inr (omega arith) ];
  }

  found_now : (x v : Tree) (j : ℕ) → d ≡ finds x v → IsStored H x v j → IsFound H' n x v j
  found_now x v j q w = record {
    inserted = l.old j (insert_fact x v) w.inserted;
    before = l.below j (insert_fact x v) w.inserted;
    deletes = λ k s. elim (l.cases k (delete_fact x) refl s) [ inl u ↦ inl (w.deletes k u) | inr u ↦ let p : finds x v ≡ deletes x = sym q ∙ u.1 in absurd (cc) ];
    inserts = λ z k s. elim (l.cases k (insert_fact x z) refl s) [ inl u ↦ inl (w.inserts z k u) | inr u ↦ let p : finds x v ≡ inserts x z = sym q ∙ u.1 in absurd (cc) ];
  }

  served_on : (x : Tree) (i j : ℕ) → i < n → IsServed H i x j → IsServed H' i x j
  served_on x i j b w = record {
    known = l.old j (k_fact x) w.known;
    before = w.before;
    last = λ y k s. elim (l.cases k (k_fact y) refl s) [ inl u ↦ w.last y k u | inr u ↦ let p = u.0 in inr (omega arith) ];
    events = λ k s. elim (l.cases k event_fact refl s) [ inl u ↦ w.events k u | inr u ↦ let p = u.0 in inr (omega arith) ];
    inputs = λ y k s. elim (l.cases k (input_fact y) refl s) [ inl u ↦ w.inputs y k u | inr u ↦ let p = u.0 in inr (omega arith) ];
  }

  served_now : (x : Tree) (j : ℕ) → d ≡ takes x → IsUsable H x j → IsServed H' n x j
  served_now x j q w = record {
    known = l.old j (k_fact x) w.known;
    before = l.below j (k_fact x) w.known;
    last = λ y k s. elim (l.cases k (k_fact y) refl s) [ inl u ↦ inl (w.last y k u) | inr u ↦ let p : takes x ≡ knows y = sym q ∙ u.1 in absurd (cc) ];
    events = λ k s. elim (l.cases k event_fact refl s) [ inl u ↦ inl (w.events k u) | inr u ↦ let p : takes x ≡ happens = sym q ∙ u.1 in absurd (cc) ];
    inputs = λ y k s. elim (l.cases k (input_fact y) refl s) [ inl u ↦ inl (w.inputs y k u) | inr u ↦ let p = u.0 in inr (omega arith) ];
  }

  -- and that is enough
  pub says_on : (e : Equations) (w : Which) → Says e H w → Asks e H d w → Says e H' w
  says_on e Init h a = λ i j s t. elim (l.cases i init_fact refl s) [
    | inl u ↦ elim (l.cases j init_fact refl t) [ inl v ↦ h i j u v | inr v ↦ absurd (a v.1 i u) ]
    | inr u ↦ elim (l.cases j init_fact refl t) [ inl v ↦ absurd (a u.1 j v) | inr v ↦ u.0 ∙ sym v.0 ]
  ]
  says_on e Eq h a = λ x y i s. elim (l.cases i (eq_fact x y) refl s) [ inl u ↦ h x y i u | inr u ↦ a x y u.1 ]
  says_on e NotEq h a = λ x y i s. elim (l.cases i (not_eq_fact x y) refl s) [ inl u ↦ h x y i u | inr u ↦ a x y u.1 ]
  says_on e In h a = λ x v i s. elim (l.cases i (is_in_fact x v) refl s) [
    | inl u ↦ let r = h x v i u in (r.0, found_on x v i r.0 (l.below i (is_in_fact x v) u) r.1)
    | inr u ↦ let r = a x v u.1 in (r.0, subst (λ k. IsFound H' k x v r.0) (sym u.0) (found_now x v r.0 u.1 r.1))
  ]
  says_on e NotIn h a = λ x y i j s t o. elim (l.cases i (is_not_set_fact x) refl s) [
    | inl u ↦
        let m = l.below i (is_not_set_fact x) u in
        let r = h x y i j u (same H H' n d l j (insert_fact x y) refl (omega arith) t) o in
        (r.0, l.old r.0 (delete_fact x) r.1, r.2, r.3)
    | inr u ↦
        let p = u.0 in
        let r = a x u.1 y j (same H H' n d l j (insert_fact x y) refl (omega arith) t) in
        let m = l.below r.0 (delete_fact x) r.1 in
        (r.0, l.old r.0 (delete_fact x) r.1, r.2, omega arith)
  ]
  says_on e Lock h a = λ k m x i j s t o. elim (l.cases j (lock_fact m x) refl t) [
    | inl u ↦
        let c = l.below j (lock_fact m x) u in
        let r = h k m x i j (same H H' n d l i (lock_fact k x) refl (omega arith) s) u o in
        (r.0, l.old r.0 (unlock_fact k x) r.1, r.2, r.3)
    | inr u ↦
        let p = u.0 in
        let r = a m x u.1 k i (same H H' n d l i (lock_fact k x) refl (omega arith) s) in
        let c = l.below r.0 (unlock_fact k x) r.1 in
        (r.0, l.old r.0 (unlock_fact k x) r.1, r.2, omega arith)
  ]
  says_on e InEv h a = λ x i s. elim (l.cases i (input_fact x) refl s) [
    | inl u ↦ let r = h x i u in (r.0, served_on x i r.0 (l.below i (input_fact x) u) r.1)
    | inr u ↦ let r = a x u.1 in (r.0, subst (λ k. IsServed H' k x r.0) (sym u.0) (served_now x r.0 u.1 r.1))
  ]
