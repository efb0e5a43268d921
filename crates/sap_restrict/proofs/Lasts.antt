-- What a guard keeps of a trace, on the trace with one more time.
use Rattle.std.proofs.Common.{◌≡◌, ℕ, ◌≤◌, refl, sym, subst, ◌∙◌, inl, inr, ◌↔◌, arith, Bool, true, false, Option, Some, None}
use Rattle.std.specs.Prelude.{MatchOption, IsTrue}
use Rattle.sap_restrict.proofs.Longer.{IsLonger}
use Rattle.sap_shapes.specs.ReservedFacts.{delete_fact, event_fact, init_fact, input_fact, insert_fact, lock_fact, unlock_fact}
use Rattle.sap_restrict.specs.Stands.{HasValue, IsUnlocked, IsHeldSince, IsReleased, IsUnset, IsUsable, MayTake}
use Rattle.sap_restrict.specs.code.Deeds.{Deed, deletes, happens, inserts, knows, locks, starts, takes, unlocks}
use Rattle.sap_terms.proofs.PlainLaws.Tests.{same_tree-refl}
use Rattle.sap_terms.specs.AdversaryFacts.{k_fact}
use Rattle.sap_terms.specs.Same.{same_tree}
use Rattle.sap_terms.specs.Tree.{Tree}
use Rattle.sap_terms.specs.declared.fact.Fact.{Fact}

abbrev pub StartStands : (ℕ → Fact → Type 0) → Bool → Type 0
StartStands H b = IsTrue b ↔ ((i : ℕ) × H i init_fact)

abbrev pub StoreStands : (ℕ → Fact → Type 0) → Tree → Option Tree → Type 0
StoreStands H x o = MatchOption o (IsUnset H x) (λ v. HasValue H x v)

abbrev pub HeldStands : (ℕ → Fact → Type 0) → Tree → Option Tree → Type 0
HeldStands H x o = MatchOption o (IsUnlocked H x) (λ l. (i : ℕ) × IsHeldSince H l x i)

abbrev pub UsableStands : (ℕ → Fact → Type 0) → Option Tree → Type 0
UsableStands H o = MatchOption o ((x : Tree) (j : ℕ) → ¬ IsUsable H x j) (λ x. MayTake H x)

pub not_same : (x y : Tree) → same_tree x y ≡ false → x ≡ y → ⊥
not_same x y h e = let a = subst (λ z. same_tree x z ≡ true) e (same_tree-refl x) in cc

module _ (H H' : ℕ → Fact → Type 0) (n : ℕ) (d : Deed) (l : IsLonger H H' n d) where
  pub start_same : (b : Bool) → (d ≡ starts → ⊥) → StartStands H b → StartStands H' b
  start_same b not_now w = (
    λ h. let r = w.0 h in (r.0, l.old r.0 init_fact r.1),
    λ r. elim (l.cases r.0 init_fact refl r.1) [ inl u ↦ w.1 (r.0, u) | inr u ↦ absurd (not_now u.1) ],
  )

  pub start_now : d ≡ starts → StartStands H' true
  start_now q = (λ h. (n, l.new init_fact q tt), λ r. refl)

  -- nothing was inserted or deleted at x
  pub store_same : (x : Tree) (o : Option Tree) → ((v : Tree) → d ≡ inserts x v → ⊥) → (d ≡ deletes x → ⊥) → StoreStands H x o → StoreStands H' x o
  store_same x None ni nd w = λ y j s. elim (l.cases j (insert_fact x y) refl s) [
    | inl u ↦ let r = w y j u in (r.0, l.old r.0 (delete_fact x) r.1, r.2)
    | inr u ↦ absurd (ni y u.1)
  ]
  store_same x (Some v) ni nd w = (
    w.0,
    record {
      inserted = l.old w.0 (insert_fact x v) w.1.inserted;
      deletes = λ k s. elim (l.cases k (delete_fact x) refl s) [ inl u ↦ w.1.deletes k u | inr u ↦ absurd (nd u.1) ];
      inserts = λ z k s. elim (l.cases k (insert_fact x z) refl s) [ inl u ↦ w.1.inserts z k u | inr u ↦ absurd (ni z u.1) ];
    },
    λ z s. elim (l.cases w.0 (insert_fact x z) refl s) [ inl u ↦ w.2 z u | inr u ↦ absurd (ni z u.1) ],
  )

  pub store_insert : (x v : Tree) → d ≡ inserts x v → StoreStands H' x (Some v)
  store_insert x v q = (
    n,
    record {
      inserted = l.new (insert_fact x v) q tt;
      deletes = λ k s. elim (l.cases k (delete_fact x) refl s) [ inl u ↦ l.below k (delete_fact x) u | inr u ↦ let p : inserts x v ≡ deletes x = sym q ∙ u.1 in absurd (cc) ];
      inserts = λ z k s. elim (l.cases k (insert_fact x z) refl s) [ inl u ↦ let b = l.below k (insert_fact x z) u in omega arith | inr u ↦ let p = u.0 in omega arith ];
    },
    λ z s. elim (l.cases n (insert_fact x z) refl s) [
      | inl u ↦ let b = l.below n (insert_fact x z) u in absurd (omega arith)
      | inr u ↦ let p : inserts x v ≡ inserts x z = sym q ∙ u.1 in cc
    ],
  )

  pub store_delete : (x : Tree) → d ≡ deletes x → StoreStands H' x None
  store_delete x q = λ y j s. elim (l.cases j (insert_fact x y) refl s) [
    | inl u ↦ (n, l.new (delete_fact x) q tt, l.below j (insert_fact x y) u)
    | inr u ↦ let p : deletes x ≡ inserts x y = sym q ∙ u.1 in absurd (cc)
  ]

  released_on : (m x : Tree) (i : ℕ) → IsReleased H m x i → IsReleased H' m x i
  released_on m x i r = (r.0, l.old r.0 (unlock_fact m x) r.1, r.2)

  -- nothing was locked at x, nor was it unlocked under the name under which it is held
  pub held_same : (x : Tree) (o : Option Tree) → ((m : Tree) → d ≡ locks m x → ⊥) → ((m : Tree) → o ≡ Some m → d ≡ unlocks m x → ⊥) → HeldStands H x o → HeldStands H' x o
  held_same x None nl nu w = λ m i s. elim (l.cases i (lock_fact m x) refl s) [ inl u ↦ released_on m x i (w m i u) | inr u ↦ absurd (nl m u.1) ]
  held_same x (Some k) nl nu w = (
    w.0,
    record {
      locked = l.old w.0 (lock_fact k x) w.1.locked;
      unlocks = λ i s. elim (l.cases i (unlock_fact k x) refl s) [ inl u ↦ w.1.unlocks i u | inr u ↦ absurd (nu k refl u.1) ];
      others = λ m i s. elim (l.cases i (lock_fact m x) refl s) [
        | inl u ↦ elim (w.1.others m i u) [ inl e ↦ inl e | inr r ↦ inr (released_on m x i r) ]
        | inr u ↦ absurd (nl m u.1)
      ];
    },
  )

  pub held_lock : (k x : Tree) → d ≡ locks k x → IsUnlocked H x → HeldStands H' x (Some k)
  held_lock k x q f = (
    n,
    record {
      locked = l.new (lock_fact k x) q tt;
      unlocks = λ i s. elim (l.cases i (unlock_fact k x) refl s) [ inl u ↦ l.below i (unlock_fact k x) u | inr u ↦ let p : locks k x ≡ unlocks k x = sym q ∙ u.1 in absurd (cc) ];
      others = λ m i s. elim (l.cases i (lock_fact m x) refl s) [
        | inl u ↦ inr (released_on m x i (f m i u))
        | inr u ↦ let p : locks k x ≡ locks m x = sym q ∙ u.1 in inl (cc)
      ];
    },
  )

  pub held_unlock : (k x : Tree) → d ≡ unlocks k x → HeldStands H x (Some k) → HeldStands H' x None
  held_unlock k x q w = λ m i s. elim (l.cases i (lock_fact m x) refl s) [
    | inl u ↦ elim (w.1.others m i u) [
      | inl e ↦ (n, subst (λ z. H' n (unlock_fact z x)) (sym e) (l.new (unlock_fact k x) q tt), l.below i (lock_fact m x) u)
      | inr r ↦ released_on m x i r
    ]
    | inr u ↦ let p : unlocks k x ≡ locks m x = sym q ∙ u.1 in absurd (cc)
  ]

  -- the adversary wasn't shown to know anything, and nothing ended that
  pub usable_same : (o : Option Tree) → ((x : Tree) → d ≡ knows x → ⊥) → (d ≡ happens → ⊥) → ((x : Tree) → d ≡ takes x → ⊥) → UsableStands H o → UsableStands H' o
  usable_same None nk nh nt w = λ x j a. elim (l.cases j (k_fact x) refl a.known) [
    | inl u ↦ w x j (record {
      known = u;
      last = λ y k s. a.last y k (l.old k (k_fact y) s);
      events = λ k s. a.events k (l.old k event_fact s);
      inputs = λ y k s. a.inputs y k (l.old k (input_fact y) s);
    })
    | inr u ↦ nk x u.1
  ]
  usable_same (Some x) nk nh nt w = (
    w.0,
    record {
      known = l.old w.0 (k_fact x) w.1.known;
      last = λ y k s. elim (l.cases k (k_fact y) refl s) [ inl u ↦ w.1.last y k u | inr u ↦ absurd (nk y u.1) ];
      events = λ k s. elim (l.cases k event_fact refl s) [ inl u ↦ w.1.events k u | inr u ↦ absurd (nh u.1) ];
      inputs = λ y k s. elim (l.cases k (input_fact y) refl s) [ inl u ↦ w.1.inputs y k u | inr u ↦ absurd (nt y u.1) ];
    },
    λ y s. elim (l.cases w.0 (k_fact y) refl s) [ inl u ↦ w.2 y u | inr u ↦ absurd (nk y u.1) ],
  )

  pub usable_known : (x : Tree) → d ≡ knows x → UsableStands H' (Some x)
  usable_known x q = (
    n,
    record {
      known = l.new (k_fact x) q tt;
      last = λ y k s. elim (l.cases k (k_fact y) refl s) [ inl u ↦ let b = l.below k (k_fact y) u in omega arith | inr u ↦ let p = u.0 in omega arith ];
      events = λ k s. elim (l.cases k event_fact refl s) [ inl u ↦ l.below k event_fact u | inr u ↦ let p : knows x ≡ happens = sym q ∙ u.1 in absurd (cc) ];
      inputs = λ y k s. elim (l.cases k (input_fact y) refl s) [ inl u ↦ l.below k (input_fact y) u | inr u ↦ let p : knows x ≡ takes y = sym q ∙ u.1 in absurd (cc) ];
    },
    λ y s. elim (l.cases n (k_fact y) refl s) [
      | inl u ↦ let b = l.below n (k_fact y) u in absurd (omega arith)
      | inr u ↦ let p : knows x ≡ knows y = sym q ∙ u.1 in cc
    ],
  )

  -- a time at which the adversary knew something is before the last, or at it
  known_within : (x : Tree) (j : ℕ) → H' j (k_fact x) → j ≤ n
  known_within x j s = elim (l.cases j (k_fact x) refl s) [ inl u ↦ let b = l.below j (k_fact x) u in omega arith | inr u ↦ let p = u.0 in omega arith ]

  pub usable_event : d ≡ happens → UsableStands H' None
  usable_event q = λ x j a.
      let b = a.events n (l.new event_fact q tt) in
      let c = known_within x j a.known in
      omega arith

  pub usable_taken : (y : Tree) → d ≡ takes y → UsableStands H' None
  usable_taken y q = λ x j a.
      let b = a.inputs y n (l.new (input_fact y) q tt) in
      let c = known_within x j a.known in
      omega arith
