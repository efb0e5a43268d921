-- Which locks are open at the end of a way, and which of them is that of an unlock, as the list of the open ones says it.
use Rattle.std.proofs.Common.{◌≡◌, ℕ, ◌<◌, ◌≤◌, List, [], ◌∷◌, Some, Bool, true, false, cond, inl, inr, arith, refl, sym, ap, subst, ◌∙◌}
use Rattle.std.specs.Prelude.{◌⊎◌, Contains}
use Rattle.sap_terms.specs.Same.{same_tree}
use Rattle.sap_terms.specs.Tree.{Tree}
use Rattle.sap_terms.proofs.PlainLaws.Items.{first_item, later_item, cons_cases}
use Rattle.sap_terms.proofs.PlainLaws.Tests.{same_tree-refl, same_tree-sound}
use Rattle.sap_held.specs.Held.{Open, dropped, found}
use Rattle.sap_locks.specs.Ways.{LockMark, locked, unlocked, IsLockOf, IsOpen}
use Rattle.sap_other_nodes.specs.code.LockWalks.{opened}

-- the numbers on the way are below k, and each is below those nearer the end
abbrev pub Descends : ℕ → List LockMark → Type 0
Descends k [] = Unit {0}
Descends k (locked j t ∷ way) = (j < k) × Descends j way
Descends k (unlocked t ∷ way) = Descends k way

-- the same of open locks
abbrev Falls : ℕ → Open → Type 0
Falls k [] = Unit {0}
Falls k (b ∷ o) = (b.0 < k) × Falls b.0 o

-- lock n of the term is on the way, open or not
abbrev pub Stands : List LockMark → ℕ → Tree → Type 0
Stands [] n t = ⊥
Stands (locked k u ∷ way) n t = ((k ≡ n) × (u ≡ t)) ⊎ Stands way n t
Stands (unlocked u ∷ way) n t = Stands way n t

abbrev Has : Open → ℕ → Tree → Type 0
Has [] n t = ⊥
Has (b ∷ o) n t = ((b.0 ≡ n) × (b.1 ≡ t)) ⊎ Has o n t

pub descends_more : (way : List LockMark) (k n : ℕ) → k ≤ n → Descends k way → Descends n way
descends_more [] k n le d = tt
descends_more (locked j t ∷ way) k n le d = (omega (arith, le, d.0), d.1)
descends_more (unlocked t ∷ way) k n le d = descends_more way k n le d

falls_more : (o : Open) (k n : ℕ) → k ≤ n → Falls k o → Falls n o
falls_more [] k n le d = tt
falls_more (b ∷ o) k n le d = (omega (arith, le, d.0), d.1)

falls_dropped : (t : Tree) (o : Open) (k : ℕ) → Falls k o → Falls k (dropped t o)
falls_dropped t [] k d = tt
falls_dropped t (b ∷ o) k d = go (same_tree b.1 t) (falls_dropped t o b.0 d.1)
  where
    go : (c : Bool) → Falls b.0 (dropped t o) → Falls k (cond c o (b ∷ dropped t o))
    go true later = falls_more o b.0 k (omega (arith, d.0)) d.1
    go false later = (d.0, later)

falls_opened : (way : List LockMark) (k : ℕ) → Descends k way → Falls k (opened way)
falls_opened [] k d = tt
falls_opened (locked j t ∷ way) k d = (d.0, falls_opened way j d.1)
falls_opened (unlocked t ∷ way) k d = falls_dropped t (opened way) k (falls_opened way k d)

abbrev mark_term : Tree → LockMark → Tree
mark_term u (locked k t) = t
mark_term u (unlocked t) = t

abbrev mark_number : LockMark → ℕ
mark_number (locked k t) = k
mark_number (unlocked t) = 0

abbrev is_locked : LockMark → Bool
is_locked (locked k t) = true
is_locked (unlocked t) = false

other_mark : (n : ℕ) (u t : Tree) → unlocked u ≡ locked n t → ⊥
other_mark n u t e = let h : false ≡ true = ap is_locked e in cc

nothing_in : {X : Type 0} (x : X) → Contains [] x → ⊥
nothing_in x h = let few = h.1 in omega (arith, few)

pub stands_in : (way : List LockMark) (n : ℕ) (t : Tree) → Contains way (locked n t) → Stands way n t
stands_in [] n t h = nothing_in (locked n t) h
stands_in (locked k u ∷ way) n t h = elim (cons_cases (locked k u) way (locked n t) h) [
  | inl e ↦ inl (ap mark_number e, ap (mark_term u) e)
  | inr m ↦ inr (stands_in way n t m)
]
stands_in (unlocked u ∷ way) n t h = elim (cons_cases (unlocked u) way (locked n t) h) [
  | inl e ↦ absurd (other_mark n u t e)
  | inr m ↦ stands_in way n t m
]

in_stands : (way : List LockMark) (n : ℕ) (t : Tree) → Stands way n t → Contains way (locked n t)
in_stands [] n t h = absurd h
in_stands (locked k u ∷ way) n t (inl e) = subst (Contains (locked k u ∷ way)) (λ i. locked (e.0 i) (e.1 i)) (first_item (locked k u) way)
in_stands (locked k u ∷ way) n t (inr m) = later_item (locked k u) way (locked n t) (in_stands way n t m)
in_stands (unlocked u ∷ way) n t m = later_item (unlocked u) way (locked n t) (in_stands way n t m)

pub stands_below : (way : List LockMark) (k n : ℕ) (t : Tree) → Descends k way → Stands way n t → n < k
stands_below [] k n t d h = absurd h
stands_below (locked j u ∷ way) k n t d (inl e) = let same : j ≡ n = e.0 in let less : j < k = d.0 in omega (arith, same, less)
stands_below (locked j u ∷ way) k n t d (inr m) = let one : n < j = stands_below way j n t d.1 m in let less : j < k = d.0 in omega (arith, one, less)
stands_below (unlocked u ∷ way) k n t d m = stands_below way k n t d m

-- an open lock is on the way
pub open_stands : (way : List LockMark) (n : ℕ) → IsOpen way n → (t : Tree) × Stands way n t
open_stands [] n h = absurd h
open_stands (locked k u ∷ way) n (inl e) = (u, inl (e, refl))
open_stands (locked k u ∷ way) n (inr h) = let r = open_stands way n h in (r.0, inr r.1)
open_stands (unlocked u ∷ way) n h = open_stands way n h.0

-- the list of open ones

has_below : (o : Open) (k n : ℕ) (t : Tree) → Falls k o → Has o n t → n < k
has_below [] k n t d h = absurd h
has_below (b ∷ o) k n t d (inl e) = let less : b.0 < k = d.0 in let same : b.0 ≡ n = e.0 in omega (arith, same, less)
has_below (b ∷ o) k n t d (inr m) = let one : n < b.0 = has_below o b.0 n t d.1 m in let less : b.0 < k = d.0 in omega (arith, one, less)

found_has : (t : Tree) (o : Open) (n : ℕ) → found t o ≡ Some n → Has o n t
found_has t [] n h = cc
found_has t (b ∷ o) n h = go (same_tree b.1 t) refl h (found_has t o n)
  where
    go : (c : Bool) → same_tree b.1 t ≡ c → cond c (Some b.0) (found t o) ≡ Some n → (found t o ≡ Some n → Has o n t) → Has (b ∷ o) n t
    go true e h later = let same : b.0 ≡ n = cc in inl (same, same_tree-sound b.1 t e)
    go false e h later = inr (later h)

not_same : (b t : Tree) → same_tree b t ≡ false → b ≡ t → ⊥
not_same b t e f = let one : same_tree b t ≡ true = ap (same_tree b) (sym f) ∙ same_tree-refl b in cc

has_found : (t : Tree) (o : Open) (n : ℕ) → Has o n t → (m : ℕ) × (found t o ≡ Some m)
has_found t [] n h = absurd h
has_found t (b ∷ o) n h = go (same_tree b.1 t) refl h (has_found t o n)
  where
    go : (c : Bool) → same_tree b.1 t ≡ c → Has (b ∷ o) n t → (Has o n t → (m : ℕ) × (found t o ≡ Some m)) → (m : ℕ) × (cond c (Some b.0) (found t o) ≡ Some m)
    go true e h later = (b.0, refl)
    go false e (inl f) later = absurd (not_same b.1 t e f.1)
    go false e (inr l) later = later l

found_greatest : (t : Tree) (o : Open) (k n m : ℕ) → Falls k o → found t o ≡ Some n → Has o m t → m ≤ n
found_greatest t [] k n m d h g = absurd g
found_greatest t (b ∷ o) k n m d h g = go (same_tree b.1 t) refl h g (found_greatest t o b.0 n m d.1)
  where
    go : (c : Bool) → same_tree b.1 t ≡ c → cond c (Some b.0) (found t o) ≡ Some n → Has (b ∷ o) m t → (found t o ≡ Some n → Has o m t → m ≤ n) → m ≤ n
    go true e h (inl f) later = let same : b.0 ≡ n = cc in let is : b.0 ≡ m = f.0 in omega (arith, same, is)
    go true e h (inr l) later = let same : b.0 ≡ n = cc in let less : m < b.0 = has_below o b.0 m t d.1 l in omega (arith, same, less)
    go false e h (inl f) later = absurd (not_same b.1 t e f.1)
    go false e h (inr l) later = later h l

-- what is dropped is what was found
dropped_has : (t : Tree) (o : Open) (k n : ℕ) (u : Tree) → Falls k o → Has (dropped t o) n u → Has o n u × (found t o ≡ Some n → ⊥)
dropped_has t [] k n u d h = absurd h
dropped_has t (b ∷ o) k n u d h = go (same_tree b.1 t) h (dropped_has t o b.0 n u d.1)
  where
    go : (c : Bool) → Has (cond c o (b ∷ dropped t o)) n u → (Has (dropped t o) n u → Has o n u × (found t o ≡ Some n → ⊥)) → Has (b ∷ o) n u × (cond c (Some b.0) (found t o) ≡ Some n → ⊥)
    go true h later = (inr h, λ e. let same : b.0 ≡ n = cc in let less : n < b.0 = has_below o b.0 n u d.1 h in omega (arith, same, less))
    go false (inl e) later = (inl e, λ f. let same : b.0 ≡ n = e.0 in let less : n < b.0 = has_below o b.0 n t d.1 (found_has t o n f) in omega (arith, same, less))
    go false (inr m) later = let r = later m in (inr r.0, r.1)

kept_has : (t : Tree) (o : Open) (n : ℕ) (u : Tree) → Has o n u → (found t o ≡ Some n → ⊥) → Has (dropped t o) n u
kept_has t [] n u h g = h
kept_has t (b ∷ o) n u h g = go (same_tree b.1 t) h g (kept_has t o n u)
  where
    go : (c : Bool) → Has (b ∷ o) n u → (cond c (Some b.0) (found t o) ≡ Some n → ⊥) → (Has o n u → (found t o ≡ Some n → ⊥) → Has (dropped t o) n u) → Has (cond c o (b ∷ dropped t o)) n u
    go true (inl e) g later = absurd (g (ap Some e.0))
    go true (inr m) g later = m
    go false (inl e) g later = inl e
    go false (inr m) g later = inr (later m g)

-- the list has the open locks of the way with their terms, and the lock of an unlock is the first of its term

abbrev pub Both : Type 0 → Type 0 → Type 0
Both P Q = (P → Q) × (Q → P)

abbrev Same : List LockMark → Open → Type 0
Same way o = (n : ℕ) (t : Tree) → (Stands way n t → IsOpen way n → Has o n t) × (Has o n t → Stands way n t × IsOpen way n)

own_by : (way : List LockMark) (k : ℕ) → Descends k way → Same way (opened way) → (n : ℕ) (t : Tree) → Both (IsLockOf way n t) (found t (opened way) ≡ Some n)
own_by way k d same n t = (λ h. to (has h) (has_found t (opened way) n (has h)) h, from)
  where
    falls : Falls k (opened way)
    falls = falls_opened way k d

    has : IsLockOf way n t → Has (opened way) n t
    has h = (same n t).0 (stands_in way n t h.stands) h.is_open

    from : found t (opened way) ≡ Some n → IsLockOf way n t
    from e =
        let is = (same n t).1 (found_has t (opened way) n e) in record {
          stands = in_stands way n t is.0;
          is_open = is.1;
          lowest = λ m at is_open. found_greatest t (opened way) k n m falls e ((same m t).0 (stands_in way m t at) is_open);
        }

    to : Has (opened way) n t → (m : ℕ) × (found t (opened way) ≡ Some m) → IsLockOf way n t → found t (opened way) ≡ Some n
    to it r h =
        let up : n ≤ r.0 = found_greatest t (opened way) k r.0 n falls r.1 it in
        let is = (same r.0 t).1 (found_has t (opened way) r.0 r.1) in
        let down : r.0 ≤ n = h.lowest r.0 (in_stands way r.0 t is.0) is.1 in
        let equal : r.0 ≡ n = omega (arith, up, down) in
        r.1 ∙ ap Some equal

same_opened : (way : List LockMark) (k : ℕ) → Descends k way → Same way (opened way)
same_opened [] k d n t = (λ h o. h, λ h. absurd h)
same_opened (locked j u ∷ way) k d n t = let later = same_opened way j d.1 n t in (to later.0, from later.1)
  where
    to : (Stands way n t → IsOpen way n → Has (opened way) n t) → ((j ≡ n) × (u ≡ t)) ⊎ Stands way n t → (j ≡ n) ⊎ IsOpen way n → ((j ≡ n) × (u ≡ t)) ⊎ Has (opened way) n t
    to later (inl e) o = inl e
    to later (inr m) (inl e) = let less : n < j = stands_below way j n t d.1 m in absurd (omega (arith, e, less))
    to later (inr m) (inr o) = inr (later m o)

    from : (Has (opened way) n t → Stands way n t × IsOpen way n) → ((j ≡ n) × (u ≡ t)) ⊎ Has (opened way) n t → (((j ≡ n) × (u ≡ t)) ⊎ Stands way n t) × ((j ≡ n) ⊎ IsOpen way n)
    from later (inl e) = (inl e, inl e.0)
    from later (inr h) = let r = later h in (inr r.0, inr r.1)
same_opened (unlocked u ∷ way) k d n t = go (same_opened way k d)
  where
    go : Same way (opened way) → (Stands way n t → IsOpen way n × (¬ IsLockOf way n u) → Has (dropped u (opened way)) n t) × (Has (dropped u (opened way)) n t → Stands way n t × (IsOpen way n × (¬ IsLockOf way n u)))
    go same =
        let own = own_by way k d same n u in (
          λ s o. kept_has u (opened way) n t ((same n t).0 s o.0) (λ e. o.1 (own.1 e)),
          λ h. let r = dropped_has u (opened way) k n t (falls_opened way k d) h in let is = (same n t).1 r.0 in (is.0, (is.1, λ l. r.1 (own.0 l))),
        )

-- the lock of an unlock of the term
pub own_is : (way : List LockMark) (k : ℕ) → Descends k way → (n : ℕ) (t : Tree) → Both (IsLockOf way n t) (found t (opened way) ≡ Some n)
own_is way k d n t = own_by way k d (same_opened way k d) n t
