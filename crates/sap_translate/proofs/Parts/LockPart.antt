-- The part of the relation on locks, over the list of who holds what.
use Rattle.sap_restrict.specs.ReservedFacts.{lock_fact, unlock_fact}
use Rattle.sap_translate.specs.Members.{Member}
use Rattle.sap_translate.proofs.Shared.Inputs.{has_more, has_where, old, new}
use Rattle.sap_translate.proofs.Traces.LockTraces.{lock_holds, lock_still, unlock_frees, only_kept, still_kept, held_not_free}
use Rattle.sap_translate.proofs.Shared.Lookups.{only_member, member_cases, in_left, in_right, member_left, member_right}
use Rattle.sap_translate.specs.relation.Locks.{LockFree, OnlyHolder, StillHeld, Holder, LockPart}
use Rattle.sap_process.specs.Configuration.{marked}
use Rattle.sap_terms.proofs.PlainLaws.Tests.{same_tree-refl, same_tree-sound}
use Rattle.sap_terms.specs.Same.{same_tree}
use Rattle.sap_terms.specs.Trace.{Trace}
use Rattle.sap_terms.specs.Tree.{Tree, fresh}
use Rattle.sap_terms.specs.declared.fact.Fact.{Fact}
use Rattle.std.proofs.Common.{◌≡◌, ℕ, List, [], ◌∷◌, ◌++◌, refl, sym, ap, ◌∙◌, Bool, true, false, cond, subst}

-- facts of locks are told apart by their arguments
args_of : (f g : Fact) → f ≡ g → f.args ≡ g.args
args_of f g e = ap (λ (z : Fact). z.args) e

lock_same : (l m x y : Tree) → lock_fact l x ≡ lock_fact m y → (l ≡ m) × (x ≡ y)
lock_same l m x y e = let h : l ∷ x ∷ [] ≡ m ∷ y ∷ [] = args_of (lock_fact l x) (lock_fact m y) e in (cc, cc)

unlock_same : (l m x y : Tree) → unlock_fact l x ≡ unlock_fact m y → (l ≡ m) × (x ≡ y)
unlock_same l m x y e = let h : l ∷ x ∷ [] ≡ m ∷ y ∷ [] = args_of (unlock_fact l x) (unlock_fact m y) e in (cc, cc)

unlock_lock : (l m x y : Tree) → unlock_fact l x ≡ lock_fact m y → ⊥
unlock_lock l m x y e = let h : (unlock_fact l x).name ≡ (lock_fact m y).name = ap (λ (z : Fact). z.name) e in cc

apart : (x y : Tree) → same_tree x y ≡ false → x ≡ y → ⊥
apart x y e s = let t : same_tree x y ≡ true = subst (λ z. same_tree x z ≡ true) s (same_tree-refl x) in let z : true ≡ false = sym t ∙ e in cc

-- a key that is free stays free, and one that is not stays so, where nothing of it is shown
free_kept : (full : Trace) (p : List Fact) (x : Tree) → ((l : Tree) → Member (lock_fact l x) p → ⊥) → LockFree full x → LockFree (full ++ p ∷ []) x
free_kept full p x none free l i a = elim (has_where full p i (lock_fact l x) a) [
  | old b c ↦ (let g = free l i c in (g.0, has_more full p g.0 (unlock_fact l x) g.1, g.2))
  | new e m ↦ absurd (none l m)
]

-- acts that lock and unlock nothing
pub lock_quiet : (held : Tree → Bool) (holders : List Holder) (full : Trace) (p : List Fact) → LockPart held holders full → ((l x : Tree) → Member (lock_fact l x) p → ⊥) → ((l x : Tree) → Member (unlock_fact l x) p → ⊥) → LockPart held holders (full ++ p ∷ [])
lock_quiet held holders full p k none none' = record {
  free = λ x h. free_kept full p x (λ l. none l x) (k.free x h);
  busy = λ x h. let b = k.busy x h in (b.0, only_kept full p x (fresh b.0) (λ l. none l x) b.1, still_kept full p x (fresh b.0) (none' (fresh b.0) x) b.2);
  only = λ h m. only_kept full p h.term (fresh h.name) (λ l. none l h.term) (k.only h m);
  still = λ h m. still_kept full p h.term (fresh h.name) (none' (fresh h.name) h.term) (k.still h m);
}

one_more : (a : Holder) (hs : List Holder) (P : Holder → Type 0) → P a → ((h : Holder) → Member h hs → P h) → (h : Holder) → Member h (a ∷ hs) → P h
one_more a hs P b all h Member.here = b
one_more a hs P b all h (Member.later m) = all h m

-- a lock: the key was free, so nobody held it
pub lock_step : (held : Tree → Bool) (holders : List Holder) (full : Trace) (a : Holder) → LockPart held holders full → held a.term ≡ false → LockPart (marked held a.term true) (a ∷ holders) (full ++ (lock_fact (fresh a.name) a.term ∷ []) ∷ [])
lock_step held holders full a k open_key = record {
  free = λ y h. free y (same_tree x y) refl h;
  busy = λ y h. busy y (same_tree x y) refl h;
  only = one_more a holders (λ h. OnlyHolder (full ++ p ∷ []) h.term (fresh h.name)) (lock_holds full (fresh a.name) x key) (λ h m. only_kept full p h.term (fresh h.name) (λ l n. other h m (sym (lock_same l (fresh a.name) h.term x (only_member n)).1)) (k.only h m));
  still = one_more a holders (λ h. StillHeld (full ++ p ∷ []) h.term (fresh h.name)) (lock_still full (fresh a.name) x) (λ h m. still_kept full p h.term (fresh h.name) (λ n. unlock_lock (fresh h.name) (fresh a.name) h.term x (only_member n)) (k.still h m));
}
  where
    x : Tree
    x = a.term

    p : List Fact
    p = lock_fact (fresh a.name) a.term ∷ []

    key : LockFree full a.term
    key = k.free a.term open_key

    other : (h : Holder) → Member h holders → a.term ≡ h.term → ⊥
    other h m s = held_not_free full h.term (fresh h.name) (subst (λ z. LockFree full z) s key) (k.still h m)

    free : (y : Tree) (b : Bool) → same_tree a.term y ≡ b → cond b true (held y) ≡ false → LockFree (full ++ (lock_fact (fresh a.name) a.term ∷ []) ∷ []) y
    free y true t h = absurd (cc)
    free y false t h = free_kept full (lock_fact (fresh a.name) a.term ∷ []) y (λ l n. apart a.term y t (sym (lock_same l (fresh a.name) y a.term (only_member n)).1)) (k.free y h)

    busy : (y : Tree) (b : Bool) → same_tree a.term y ≡ b → cond b true (held y) ≡ true → (n : ℕ) × OnlyHolder (full ++ (lock_fact (fresh a.name) a.term ∷ []) ∷ []) y (fresh n) × StillHeld (full ++ (lock_fact (fresh a.name) a.term ∷ []) ∷ []) y (fresh n)
    busy y true t h = subst (λ z. (n : ℕ) × OnlyHolder (full ++ (lock_fact (fresh a.name) a.term ∷ []) ∷ []) z (fresh n) × StillHeld (full ++ (lock_fact (fresh a.name) a.term ∷ []) ∷ []) z (fresh n)) (same_tree-sound a.term y t) (a.name, lock_holds full (fresh a.name) a.term key, lock_still full (fresh a.name) a.term)
    busy y false t h =
        let b = k.busy y h in
        (b.0, only_kept full (lock_fact (fresh a.name) a.term ∷ []) y (fresh b.0) (λ l n. apart a.term y t (sym (lock_same l (fresh a.name) y a.term (only_member n)).1)) b.1, still_kept full (lock_fact (fresh a.name) a.term ∷ []) y (fresh b.0) (λ n. unlock_lock (fresh b.0) (fresh a.name) y a.term (only_member n)) b.2)

-- an unlock by one of the holders, whose name no other has
pub unlock_step : (held : Tree → Bool) (before after : List Holder) (full : Trace) (a : Holder) → LockPart held (before ++ a ∷ after) full → ((h : Holder) → Member h (before ++ after) → h.name ≡ a.name → ⊥) → LockPart (marked held a.term false) (before ++ after) (full ++ (unlock_fact (fresh a.name) a.term ∷ []) ∷ [])
unlock_step held before after full a k differ = record {
  free = λ y h. free y (same_tree a.term y) refl h;
  busy = λ y h. busy y (same_tree a.term y) refl h;
  only = λ h m. only_kept full p h.term (fresh h.name) (λ l n. unlock_lock (fresh a.name) l a.term h.term (sym (only_member n))) (k.only h (among h m));
  still = λ h m. still_kept full p h.term (fresh h.name) (λ n. differ h m (number (fresh-same h n))) (k.still h (among h m));
}
  where
    p : List Fact
    p = unlock_fact (fresh a.name) a.term ∷ []

    among : (h : Holder) → Member h (before ++ after) → Member h (before ++ a ∷ after)
    among h m = elim (member_cases before after m) [ in_left i ↦ member_left (a ∷ after) i | in_right i ↦ member_right before (Member.later i) ]

    number : {m n : ℕ} → ◌≡◌ {A = Tree} (fresh m) (fresh n) → m ≡ n
    number e = cc

    fresh-same : (h : Holder) → Member (unlock_fact (fresh h.name) h.term) (unlock_fact (fresh a.name) a.term ∷ []) → ◌≡◌ {A = Tree} (fresh h.name) (fresh a.name)
    fresh-same h n = (unlock_same (fresh h.name) (fresh a.name) h.term a.term (only_member n)).0

    mine : OnlyHolder full a.term (fresh a.name)
    mine = k.only a (member_right before Member.here)

    free : (y : Tree) (b : Bool) → same_tree a.term y ≡ b → cond b false (held y) ≡ false → LockFree (full ++ (unlock_fact (fresh a.name) a.term ∷ []) ∷ []) y
    free y true t h = subst (λ z. LockFree (full ++ (unlock_fact (fresh a.name) a.term ∷ []) ∷ []) z) (same_tree-sound a.term y t) (unlock_frees full (fresh a.name) a.term mine)
    free y false t h = free_kept full (unlock_fact (fresh a.name) a.term ∷ []) y (λ l n. unlock_lock (fresh a.name) l a.term y (sym (only_member n))) (k.free y h)

    busy : (y : Tree) (b : Bool) → same_tree a.term y ≡ b → cond b false (held y) ≡ true → (n : ℕ) × OnlyHolder (full ++ (unlock_fact (fresh a.name) a.term ∷ []) ∷ []) y (fresh n) × StillHeld (full ++ (unlock_fact (fresh a.name) a.term ∷ []) ∷ []) y (fresh n)
    busy y true t h = absurd (cc)
    busy y false t h =
        let b = k.busy y h in
        (b.0, only_kept full (unlock_fact (fresh a.name) a.term ∷ []) y (fresh b.0) (λ l n. unlock_lock (fresh a.name) l a.term y (sym (only_member n))) b.1, still_kept full (unlock_fact (fresh a.name) a.term ∷ []) y (fresh b.0) (λ n. apart a.term y t (sym (unlock_same (fresh b.0) (fresh a.name) y a.term (only_member n)).1)) b.2)
