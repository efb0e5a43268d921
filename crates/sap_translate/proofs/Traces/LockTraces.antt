-- sapic_lock by sentences of its own shape, after one more place.
use Rattle.sap_restrict.specs.ReservedFacts.{lock_fact, unlock_fact}
use Rattle.sap_translate.specs.Members.{Member}
use Rattle.sap_translate.specs.relation.Shown.{ShowsAt}
use Rattle.sap_restrict.specs.Sentences.{EachLock}
use Rattle.sap_translate.proofs.Shared.Inputs.{has_more, has_last, has_within, has_where, Where, old, new}
use Rattle.sap_translate.proofs.Shared.Lookups.{only_member}
use Rattle.sap_translate.specs.relation.Names.{name_among}
use Rattle.sap_translate.specs.relation.Locks.{LockFree, OnlyHolder, StillHeld}
use Rattle.sap_terms.specs.Trace.{Trace}
use Rattle.sap_terms.specs.Tree.{Tree}
use Rattle.sap_terms.specs.declared.fact.Fact.{Fact}
use Rattle.std.proofs.Common.{◌≡◌, ℕ, ◌<◌, ◌≤◌, inl, inr, List, [], ◌∷◌, ◌++◌, Bool, true, false, sym, ap, arith, length, subst}
use Rattle.std.specs.Prelude.{codes}

lock_args : (l m x y : Tree) → lock_fact l x ≡ lock_fact m y → (l ≡ m) × (x ≡ y)
lock_args l m x y e = let h : l ∷ x ∷ [] ≡ m ∷ y ∷ [] = ap (λ (z : Fact). z.args) e in (cc, cc)

lock_unlock : (l m x y : Tree) → unlock_fact l x ≡ lock_fact m y → ⊥
lock_unlock l m x y e = let h : codes "Unlock" ≡ codes "Lock" = ap (λ (z : Fact). z.name) e in cc

-- a lock that is admitted was free
pub lock_now : (full : Trace) (m x : Tree) → EachLock (ShowsAt (full ++ (lock_fact m x ∷ []) ∷ [])) → LockFree full x
lock_now full m x h l i a =
    let p = lock_fact m x ∷ [] in
    let lt = has_within full i (lock_fact l x) a in
    let g = h l m x i (length full) (has_more full p i (lock_fact l x) a) (has_last full p (lock_fact m x) Member.here) lt in
    (g.0, elim (has_where full p g.0 (unlock_fact l x) g.1) [ old b c ↦ c | new e n ↦ absurd (lock_unlock l m x x (only_member n)) ], g.2)

-- and a lock that is free is admitted
pub lock_ok : (full : Trace) (m x : Tree) → EachLock (ShowsAt full) → LockFree full x → EachLock (ShowsAt (full ++ (lock_fact m x ∷ []) ∷ []))
lock_ok full m x h free l n y i j a b lt = go (has_where full p i (lock_fact l y) a) (has_where full p j (lock_fact n y) b)
  where
    p : List Fact
    p = lock_fact m x ∷ []

    Goal : Type 0
    Goal = (k : ℕ) × ShowsAt (full ++ (lock_fact m x ∷ []) ∷ []) k (unlock_fact l y) × (i < k) × (k < j)

    go : Where full (lock_fact m x ∷ []) i (lock_fact l y) → Where full (lock_fact m x ∷ []) j (lock_fact n y) → (k : ℕ) × ShowsAt (full ++ (lock_fact m x ∷ []) ∷ []) k (unlock_fact l y) × (i < k) × (k < j)
    go (old c d) (old e f) = let g = h l n y i j d f lt in (g.0, has_more full (lock_fact m x ∷ []) g.0 (unlock_fact l y) g.1, g.2, g.3)
    go (old c d) (new e f) =
        let same = (lock_args n m y x (only_member f)).1 in
        let g = free l i (subst (λ z. ShowsAt full i (lock_fact l z)) same d) in
        let within = has_within full g.0 (unlock_fact l x) g.1 in
        (g.0, has_more full (lock_fact m x ∷ []) g.0 (unlock_fact l y) (subst (λ z. ShowsAt full g.0 (unlock_fact l z)) (sym same) g.1), g.2, omega arith)
    go (new c d) w = absurd (let z = last w in omega arith)
      where
        last : Where full (lock_fact m x ∷ []) j (lock_fact n y) → j ≤ length full
        last (old e f) = omega arith
        last (new e f) = omega arith

-- what a lock leaves
pub lock_holds : (full : Trace) (n x : Tree) → LockFree full x → OnlyHolder (full ++ (lock_fact n x ∷ []) ∷ []) x n
lock_holds full n x free l i a = elim (has_where full (lock_fact n x ∷ []) i (lock_fact l x) a) [
  | old b c ↦ inr (let g = free l i c in (g.0, has_more full (lock_fact n x ∷ []) g.0 (unlock_fact l x) g.1, g.2))
  | new e m ↦ inl (lock_args l n x x (only_member m)).0
]

pub lock_still : (full : Trace) (n x : Tree) → StillHeld (full ++ (lock_fact n x ∷ []) ∷ []) x n
lock_still full n x = record {
  place = length full;
  locked = has_last full (lock_fact n x ∷ []) (lock_fact n x) Member.here;
  since = λ k a. elim (has_where full (lock_fact n x ∷ []) k (unlock_fact n x) a) [ old b c ↦ b | new e m ↦ absurd (lock_unlock n n x x (only_member m)) ];
}

-- the holder's unlock frees
pub unlock_frees : (full : Trace) (n x : Tree) → OnlyHolder full x n → LockFree (full ++ (unlock_fact n x ∷ []) ∷ []) x
unlock_frees full n x only l i a = elim (has_where full (unlock_fact n x ∷ []) i (lock_fact l x) a) [
  | new e m ↦ absurd (lock_unlock n l x x (sym (only_member m)))
  | old b c ↦ elim (only l i c) [
    | inl same ↦ (length full, has_last full (unlock_fact n x ∷ []) (unlock_fact l x) (subst (λ z. Member (unlock_fact z x) (unlock_fact n x ∷ [])) (sym same) Member.here), b)
    | inr g ↦ (g.0, has_more full (unlock_fact n x ∷ []) g.0 (unlock_fact l x) g.1, g.2)
  ]
]

-- a place without a lock of x, and without n's unlock of x, keeps both
pub only_kept : (full : Trace) (p : List Fact) (x n : Tree) → ((l : Tree) → Member (lock_fact l x) p → ⊥) → OnlyHolder full x n → OnlyHolder (full ++ p ∷ []) x n
only_kept full p x n none only l i a = elim (has_where full p i (lock_fact l x) a) [
  | new e m ↦ absurd (none l m)
  | old b c ↦ elim (only l i c) [ inl s ↦ inl s | inr g ↦ inr (g.0, has_more full p g.0 (unlock_fact l x) g.1, g.2) ]
]

pub still_kept : (full : Trace) (p : List Fact) (x n : Tree) → (Member (unlock_fact n x) p → ⊥) → StillHeld full x n → StillHeld (full ++ p ∷ []) x n
still_kept full p x n none s = record {
  place = s.place;
  locked = has_more full p s.place (lock_fact n x) s.locked;
  since = λ k a. elim (has_where full p k (unlock_fact n x) a) [ old b c ↦ s.since k c | new e m ↦ absurd (none m) ];
}

-- what is held is not free, and has one holder
pub held_not_free : (full : Trace) (x n : Tree) → LockFree full x → StillHeld full x n → ⊥
held_not_free full x n free s = let g = free n s.place s.locked in let lt = s.since g.0 g.1 in let gt = g.2 in omega arith

pub one_holder : (full : Trace) (x n m : Tree) → OnlyHolder full x n → StillHeld full x m → m ≡ n
one_holder full x n m only s = elim (only m s.place s.locked) [ inl e ↦ e | inr g ↦ absurd (let lt = s.since g.0 g.1 in let gt = g.2 in omega arith) ]

pub lock_more : (full : Trace) (p : List Fact) → EachLock (ShowsAt full) → ((l x : Tree) → Member (lock_fact l x) p → ⊥) → EachLock (ShowsAt (full ++ p ∷ []))
lock_more full p h quiet l m x i j a b lt = elim (has_where full p i (lock_fact l x) a) [
  | new e n ↦ absurd (quiet l x n)
  | old c d ↦ elim (has_where full p j (lock_fact m x) b) [
    | new e n ↦ absurd (quiet m x n)
    | old e f ↦ (let g = h l m x i j d f lt in (g.0, has_more full p g.0 (unlock_fact l x) g.1, g.2, g.3))
  ]
]

pub lock_before : (full : Trace) (p : List Fact) → EachLock (ShowsAt (full ++ p ∷ [])) → EachLock (ShowsAt full)
lock_before full p h l m x i j a b lt =
    let w = has_within full j (lock_fact m x) b in
    let g = h l m x i j (has_more full p i (lock_fact l x) a) (has_more full p j (lock_fact m x) b) lt in
    let first = g.3 in
    (g.0, elim (has_where full p g.0 (unlock_fact l x) g.1) [ old c d ↦ d | new e n ↦ absurd (omega arith) ], g.2, g.3)

-- acts that neither lock nor unlock
abbrev pub is_lock : List ℕ → Bool
is_lock name = name_among name (codes "Lock" ∷ codes "Unlock" ∷ [])

abbrev pub NoLock : List Fact → Type 0
NoLock acts = (f : Fact) → Member f acts → is_lock f.name ≡ false

pub no_lock_none : NoLock []
no_lock_none f m = elim m [ ]

pub no_lock_one : (f : Fact) → is_lock f.name ≡ false → NoLock (f ∷ [])
no_lock_one f e g m = subst (λ x. is_lock x.name ≡ false) (sym (only_member m)) e

pub no_lock_more : (f : Fact) (fs : List Fact) → is_lock f.name ≡ false → NoLock fs → NoLock (f ∷ fs)
no_lock_more f fs e rest g Member.here = e
no_lock_more f fs e rest g (Member.later m) = rest g m

pub no_lock_fact : (acts : List Fact) (l x : Tree) → NoLock acts → Member (lock_fact l x) acts → ⊥
no_lock_fact acts l x none m = let h : true ≡ false = none (lock_fact l x) m in cc

pub no_unlock_fact : (acts : List Fact) (l x : Tree) → NoLock acts → Member (unlock_fact l x) acts → ⊥
no_unlock_fact acts l x none m = let h : true ≡ false = none (unlock_fact l x) m in cc
