-- The list of open locks is what the way says.
use Rattle.std.proofs.Common.{◌≡◌, ℕ, ◌<◌, ◌≤◌, ◌⊎◌, inl, inr, List, [], ◌∷◌, Some, Bool, true, false, cond, arith, refl, sym, ap, subst, ◌∙◌}
use Rattle.std.specs.Prelude.{Contains}
use Rattle.sap_terms.specs.Same.{same_tree}
use Rattle.sap_terms.specs.Tree.{Tree}
use Rattle.sap_terms.proofs.PlainLaws.Tests.{same_tree-refl, same_tree-sound}
use Rattle.sap_locks.proofs.Members.{member-head, member-tail, member-none, member-cases}
use Rattle.sap_locks.specs.Ways.{LockMark, locked, unlocked, IsOpen, IsLockOf}
use Rattle.sap_held.specs.Held.{Open, found, dropped}
use Rattle.sap_locks.specs.code.Labels.{opened}

-- the numbers on the way are below k, and each is below those nearer the end
abbrev pub Descends : ℕ → List LockMark → Type 0
Descends k [] = Unit {0}
Descends k (locked j t ∷ way) = (j < k) × Descends j way
Descends k (unlocked t ∷ way) = Descends k way

-- the same of open locks
abbrev pub Falls : ℕ → Open → Type 0
Falls k [] = Unit {0}
Falls k (b ∷ o) = (b.0 < k) × Falls b.0 o

abbrev Stands : List LockMark → ℕ → Tree → Type 0
Stands [] n t = ⊥
Stands (locked k u ∷ way) n t = ((k ≡ n) × (u ≡ t)) ⊎ Stands way n t
Stands (unlocked u ∷ way) n t = Stands way n t

abbrev pub Has : Open → ℕ → Tree → Type 0
Has [] n t = ⊥
Has (b ∷ o) n t = ((b.0 ≡ n) × (b.1 ≡ t)) ⊎ Has o n t

abbrev pub HasLabel : Open → ℕ → Type 0
HasLabel [] n = ⊥
HasLabel (b ∷ o) n = (b.0 ≡ n) ⊎ HasLabel o n

pub descends_more : (way : List LockMark) (k n : ℕ) → k ≤ n → Descends k way → Descends n way
descends_more [] k n le d = tt
descends_more (locked j t ∷ way) k n le d = (omega (arith, le, d.0), d.1)
descends_more (unlocked t ∷ way) k n le d = descends_more way k n le d

falls_more : (o : Open) (k n : ℕ) → k ≤ n → Falls k o → Falls n o
falls_more [] k n le d = tt
falls_more (b ∷ o) k n le d = (omega (arith, le, d.0), d.1)

falls_dropped : (t : Tree) (o : Open) (k : ℕ) → Falls k o → Falls k (dropped t o)
falls_dropped t [] k d = tt
falls_dropped t (b ∷ o) k d = go (same_tree b.1 t) (falls_dropped t o b.0 d.1)
  where
    go : (c : Bool) → Falls b.0 (dropped t o) → Falls k (cond c o (b ∷ dropped t o))
    go true later = falls_more o b.0 k (omega (arith, d.0)) d.1
    go false later = (d.0, later)

pub falls_opened : (way : List LockMark) (k : ℕ) → Descends k way → Falls k (opened way)
falls_opened [] k d = tt
falls_opened (locked j t ∷ way) k d = (d.0, falls_opened way j d.1)
falls_opened (unlocked t ∷ way) k d = falls_dropped t (opened way) k (falls_opened way k d)

-- what stands on the way is what it contains

abbrev mark_term : Tree → LockMark → Tree
mark_term u (locked k t) = t
mark_term u (unlocked t) = t

abbrev mark_number : LockMark → ℕ
mark_number (locked k t) = k
mark_number (unlocked t) = 0

same_mark : (k n : ℕ) (u t : Tree) → locked k u ≡ locked n t → (k ≡ n) × (u ≡ t)
same_mark k n u t e = (ap mark_number e, ap (mark_term t) e)

abbrev is_locked : LockMark → Bool
is_locked (locked k t) = true
is_locked (unlocked t) = false

other_mark : (n : ℕ) (u t : Tree) → unlocked u ≡ locked n t → ⊥
other_mark n u t e = let h : false ≡ true = ap is_locked e in cc

stands_in : (way : List LockMark) (n : ℕ) (t : Tree) → Contains way (locked n t) → Stands way n t
stands_in [] n t h = member-none (locked n t) h
stands_in (locked k u ∷ way) n t h = elim (member-cases (locked k u) way (locked n t) h) [
  | inl e ↦ inl (same_mark k n u t e)
  | inr m ↦ inr (stands_in way n t m)
]
stands_in (unlocked u ∷ way) n t h = elim (member-cases (unlocked u) way (locked n t) h) [
  | inl e ↦ absurd (other_mark n u t e)
  | inr m ↦ stands_in way n t m
]

in_stands : (way : List LockMark) (n : ℕ) (t : Tree) → Stands way n t → Contains way (locked n t)
in_stands [] n t h = absurd h
in_stands (locked k u ∷ way) n t (inl e) = subst (Contains (locked k u ∷ way)) (λ i. locked (e.0 i) (e.1 i)) (member-head (locked k u) way)
in_stands (locked k u ∷ way) n t (inr m) = member-tail (locked k u) way (locked n t) (in_stands way n t m)
in_stands (unlocked u ∷ way) n t m = member-tail (unlocked u) way (locked n t) (in_stands way n t m)

stands_below : (way : List LockMark) (k n : ℕ) (t : Tree) → Descends k way → Stands way n t → n < k
stands_below [] k n t d h = absurd h
stands_below (locked j u ∷ way) k n t d (inl e) = let same : j ≡ n = e.0 in let less : j < k = d.0 in omega (arith, same, less)
stands_below (locked j u ∷ way) k n t d (inr m) = let one : n < j = stands_below way j n t d.1 m in let less : j < k = d.0 in omega (arith, one, less)
stands_below (unlocked u ∷ way) k n t d m = stands_below way k n t d m

-- one number, one term
stands_one : (way : List LockMark) (k n : ℕ) (t u : Tree) → Descends k way → Stands way n t → Stands way n u → t ≡ u
stands_one [] k n t u d h g = absurd h
stands_one (locked j w ∷ way) k n t u d (inl e) (inl f) = sym e.1 ∙ f.1
stands_one (locked j w ∷ way) k n t u d (inl e) (inr m) = let less : n < j = stands_below way j n u d.1 m in let same : j ≡ n = e.0 in absurd (omega (arith, less, same))
stands_one (locked j w ∷ way) k n t u d (inr m) (inl e) = let less : n < j = stands_below way j n t d.1 m in let same : j ≡ n = e.0 in absurd (omega (arith, less, same))
stands_one (locked j w ∷ way) k n t u d (inr m) (inr l) = stands_one way j n t u d.1 m l
stands_one (unlocked w ∷ way) k n t u d m l = stands_one way k n t u d m l

-- the list

pub has_dropped : (t : Tree) (o : Open) (n : ℕ) (u : Tree) → Has (dropped t o) n u → Has o n u
has_dropped t [] n u h = h
has_dropped t (b ∷ o) n u h = go (same_tree b.1 t) h (has_dropped t o n u)
  where
    go : (c : Bool) → Has (cond c o (b ∷ dropped t o)) n u → (Has (dropped t o) n u → Has o n u) → Has (b ∷ o) n u
    go true h later = inr h
    go false (inl e) later = inl e
    go false (inr m) later = inr (later m)

has_stands : (way : List LockMark) (n : ℕ) (t : Tree) → Has (opened way) n t → Stands way n t
has_stands [] n t h = h
has_stands (locked k u ∷ way) n t (inl e) = inl e
has_stands (locked k u ∷ way) n t (inr m) = inr (has_stands way n t m)
has_stands (unlocked u ∷ way) n t h = has_stands way n t (has_dropped u (opened way) n t h)

pub has_label : (o : Open) (n : ℕ) (t : Tree) → Has o n t → HasLabel o n
has_label [] n t h = h
has_label (b ∷ o) n t (inl e) = inl e.0
has_label (b ∷ o) n t (inr m) = inr (has_label o n t m)

label_has : (o : Open) (n : ℕ) → HasLabel o n → (t : Tree) × Has o n t
label_has [] n h = absurd h
label_has (b ∷ o) n (inl e) = (b.1, inl (e, refl))
label_has (b ∷ o) n (inr m) = let r = label_has o n m in (r.0, inr r.1)

label_below : (o : Open) (k n : ℕ) → Falls k o → HasLabel o n → n < k
label_below [] k n d h = absurd h
label_below (b ∷ o) k n d (inl e) = let less : b.0 < k = d.0 in omega (arith, e, less)
label_below (b ∷ o) k n d (inr m) = let one : n < b.0 = label_below o b.0 n d.1 m in let less : b.0 < k = d.0 in omega (arith, one, less)

pub found_has : (t : Tree) (o : Open) (n : ℕ) → found t o ≡ Some n → Has o n t
found_has t [] n h = cc
found_has t (b ∷ o) n h = go (same_tree b.1 t) refl h (found_has t o n)
  where
    go : (c : Bool) → same_tree b.1 t ≡ c → cond c (Some b.0) (found t o) ≡ Some n → (found t o ≡ Some n → Has o n t) → Has (b ∷ o) n t
    go true e h later = let same : b.0 ≡ n = cc in inl (same, same_tree-sound b.1 t e)
    go false e h later = inr (later h)

found_greatest : (t : Tree) (o : Open) (k n m : ℕ) → Falls k o → found t o ≡ Some n → Has o m t → m ≤ n
found_greatest t [] k n m d h g = absurd g
found_greatest t (b ∷ o) k n m d h g = go (same_tree b.1 t) refl h g (found_greatest t o b.0 n m d.1)
  where
    go : (c : Bool) → same_tree b.1 t ≡ c → cond c (Some b.0) (found t o) ≡ Some n → Has (b ∷ o) m t → (found t o ≡ Some n → Has o m t → m ≤ n) → m ≤ n
    go true e h (inl f) later = let same : b.0 ≡ n = cc in let is : b.0 ≡ m = f.0 in omega (arith, same, is)
    go true e h (inr l) later = let same : b.0 ≡ n = cc in let less : m < b.0 = label_below o b.0 m d.1 (has_label o m t l) in omega (arith, same, less)
    go false e h (inl f) later = let one : same_tree b.1 t ≡ true = ap (same_tree b.1) (sym f.1) ∙ same_tree-refl b.1 in absurd (cc)
    go false e h (inr l) later = later h l

has_found : (t : Tree) (o : Open) (n : ℕ) → Has o n t → (m : ℕ) × (found t o ≡ Some m)
has_found t [] n h = absurd h
has_found t (b ∷ o) n h = go (same_tree b.1 t) refl h (has_found t o n)
  where
    go : (c : Bool) → same_tree b.1 t ≡ c → Has (b ∷ o) n t → (Has o n t → (m : ℕ) × (found t o ≡ Some m)) → (m : ℕ) × (cond c (Some b.0) (found t o) ≡ Some m)
    go true e h later = (b.0, refl)
    go false e (inl f) later = let one : same_tree b.1 t ≡ true = ap (same_tree b.1) (sym f.1) ∙ same_tree-refl b.1 in absurd (cc)
    go false e (inr l) later = later l

-- what is dropped is what was found
pub drop_one : (t : Tree) (o : Open) (k n : ℕ) → Falls k o → HasLabel (dropped t o) n → HasLabel o n × (found t o ≡ Some n → ⊥)
drop_one t [] k n d h = absurd h
drop_one t (b ∷ o) k n d h = go (same_tree b.1 t) h (drop_one t o b.0 n d.1)
  where
    go : (c : Bool) → HasLabel (cond c o (b ∷ dropped t o)) n → (HasLabel (dropped t o) n → HasLabel o n × (found t o ≡ Some n → ⊥)) → HasLabel (b ∷ o) n × (cond c (Some b.0) (found t o) ≡ Some n → ⊥)
    go true h later = (inr h, λ e. let same : b.0 ≡ n = cc in let less : n < b.0 = label_below o b.0 n d.1 h in omega (arith, same, less))
    go false (inl e) later = (inl e, λ f. let less : n < b.0 = label_below o b.0 n d.1 (has_label o n t (found_has t o n f)) in omega (arith, e, less))
    go false (inr m) later = let r = later m in (inr r.0, r.1)

keep_others : (t : Tree) (o : Open) (n : ℕ) → HasLabel o n → (found t o ≡ Some n → ⊥) → HasLabel (dropped t o) n
keep_others t [] n h g = h
keep_others t (b ∷ o) n h g = go (same_tree b.1 t) h g (keep_others t o n)
  where
    go : (c : Bool) → HasLabel (b ∷ o) n → (cond c (Some b.0) (found t o) ≡ Some n → ⊥) → (HasLabel o n → (found t o ≡ Some n → ⊥) → HasLabel (dropped t o) n) → HasLabel (cond c o (b ∷ dropped t o)) n
    go true (inl e) g later = absurd (g (ap Some e))
    go true (inr m) g later = m
    go false (inl e) g later = inl e
    go false (inr m) g later = inr (later m g)

-- the open locks of the way are those of the list, and the lock of an unlock is the first of the term

abbrev pub IsBoth : Type 0 → Type 0 → Type 0
IsBoth P Q = (P → Q) × (Q → P)

lock_by : (way : List LockMark) (k : ℕ) → Descends k way → ((n : ℕ) → IsBoth (IsOpen way n) (HasLabel (opened way) n)) → (n : ℕ) (t : Tree) → IsBoth (IsLockOf way n t) (found t (opened way) ≡ Some n)
lock_by way k d same n t = (λ h. to (has_found t (opened way) n (has h)) h, from)
  where
    -- an open lock of the way with its term
    among : (m : ℕ) → Contains way (locked m t) → IsOpen way m → Has (opened way) m t
    among m at is =
        let r = label_has (opened way) m ((same m).0 is) in
        subst (Has (opened way) m) (stands_one way k m r.0 t d (has_stands way m r.0 r.1) (stands_in way m t at)) r.1

    has : IsLockOf way n t → Has (opened way) n t
    has h = among n h.stands h.is_open

    from : found t (opened way) ≡ Some n → IsLockOf way n t
    from e = record {
      stands = in_stands way n t (has_stands way n t (found_has t (opened way) n e));
      is_open = (same n).1 (has_label (opened way) n t (found_has t (opened way) n e));
      lowest = λ m at is. found_greatest t (opened way) k n m (falls_opened way k d) e (among m at is);
    }

    to : (m : ℕ) × (found t (opened way) ≡ Some m) → IsLockOf way n t → found t (opened way) ≡ Some n
    to r h =
        let it : Has (opened way) r.0 t = found_has t (opened way) r.0 r.1 in
        let up : n ≤ r.0 = found_greatest t (opened way) k r.0 n (falls_opened way k d) r.1 (has h) in
        let down : r.0 ≤ n = h.lowest r.0 (in_stands way r.0 t (has_stands way r.0 t it)) ((same r.0).1 (has_label (opened way) r.0 t it)) in
        let equal : r.0 ≡ n = omega (arith, up, down) in
        r.1 ∙ ap Some equal

pub open_is : (way : List LockMark) (k : ℕ) → Descends k way → (n : ℕ) → IsBoth (IsOpen way n) (HasLabel (opened way) n)
open_is [] k d n = (λ h. h, λ h. h)
open_is (locked j t ∷ way) k d n = go (open_is way j d.1 n)
  where
    go : IsBoth (IsOpen way n) (HasLabel (opened way) n) → IsBoth ((j ≡ n) ⊎ IsOpen way n) ((j ≡ n) ⊎ HasLabel (opened way) n)
    go same = (λ h. elim h [ inl e ↦ inl e | inr m ↦ inr (same.0 m) ], λ h. elim h [ inl e ↦ inl e | inr m ↦ inr (same.1 m) ])
open_is (unlocked t ∷ way) k d n = go (open_is way k d)
  where
    go : ((m : ℕ) → IsBoth (IsOpen way m) (HasLabel (opened way) m)) → IsBoth (IsOpen way n × (IsLockOf way n t → ⊥)) (HasLabel (dropped t (opened way)) n)
    go same =
        let own = lock_by way k d same n t in (
          λ h. keep_others t (opened way) n ((same n).0 h.0) (λ e. h.1 (own.1 e)),
          λ h. let r = drop_one t (opened way) k n (falls_opened way k d) h in ((same n).1 r.0, λ own_is. r.1 (own.0 own_is)),
        )

pub lock_is : (way : List LockMark) (k : ℕ) → Descends k way → (n : ℕ) (t : Tree) → IsBoth (IsLockOf way n t) (found t (opened way) ≡ Some n)
lock_is way k d n t = lock_by way k d (open_is way k d) n t
