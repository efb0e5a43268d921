-- Two lists of notes as one.
use Rattle.std.proofs.Common.{◌≡◌, ◌≤◌, ◌<◌, ◌+◌, ℕ, Bool, true, false, ◌&&◌, ◌||◌, nat_eq, nat_lt, inl, inr, List, [], ◌∷◌, ◌++◌, ◌⊎◌, drop, Some, refl, sym, ap, ◌∙◌, subst, ⊎_elim, arith}
use Rattle.std.proofs.lemmas.Bool.{and_parts, cases_lt, cases_order, eq-eqb, eqb-true, lt-ltb, ltb-true, or_cases, or_left, or_right, and_from, true≢false}
use Rattle.std.proofs.lemmas.List.Elements.{Contains-append_cases, Contains-append_left, Contains-append_right}
use Rattle.std.specs.Prelude.{Contains, if◌then◌else◌, slice_get}
use Rattle.sap_terms.proofs.PlainLaws.Items.{cons_cases, first_item, later_item, none_contained}
use Rattle.sap_terms.proofs.PlainLaws.Lists.{drop_got}
use Rattle.sap_notes.specs.Notes.{AreAscending, IsBefore, rank}
use Rattle.sap_notes.specs.code.Ranked.{AreRanked, ahead_of, comes_before, from_there, merged}
use Rattle.sap_notes.specs.declared.note.Note.{Note}
use Rattle.sap_notes.proofs.Ascending.{joined}

-- ---- the test

before_is : (n m : Note) → comes_before n m ≡ true → IsBefore n m
before_is n m e = ⊎_elim (λ l. inl (ltb-true n.word.from m.word.from l))
    (λ r. let two = and_parts (nat_eq n.word.from m.word.from) (nat_lt (rank n.kind) (rank m.kind)) r in
    inr (eqb-true n.word.from m.word.from two.0, ltb-true (rank n.kind) (rank m.kind) two.1))
    (or_cases (nat_lt n.word.from m.word.from) (nat_eq n.word.from m.word.from && nat_lt (rank n.kind) (rank m.kind)) e)

is_before : (n m : Note) → IsBefore n m → comes_before n m ≡ true
is_before n m b = ⊎_elim (λ l. or_left (nat_lt n.word.from m.word.from) (nat_eq n.word.from m.word.from && nat_lt (rank n.kind) (rank m.kind)) (lt-ltb n.word.from m.word.from l))
    (λ r. or_right (nat_lt n.word.from m.word.from) (nat_eq n.word.from m.word.from && nat_lt (rank n.kind) (rank m.kind))
    (and_from (nat_eq n.word.from m.word.from) (nat_lt (rank n.kind) (rank m.kind)) (eq-eqb n.word.from m.word.from r.0) (lt-ltb (rank n.kind) (rank m.kind) r.1))) b

behind_too : (n m k : Note) → IsBefore n m → IsBefore m k → IsBefore n k
behind_too n m k a b = ⊎_elim (λ l. ⊎_elim (λ r. inl (omega (arith, l, r))) (λ r. let e = r.0 in inl (omega (arith, l, e))) b)
    (λ l. let e = l.0 in let lt = l.1 in ⊎_elim (λ r. inl (omega (arith, r, e))) (λ r. let f = r.0 in let more = r.1 in inr (omega (arith, e, f), omega (arith, lt, more))) b) a

-- of two notes of different ranks one stands before the other
one_first : (n m : Note) → rank n.kind < rank m.kind → comes_before m n ≡ false → IsBefore n m
one_first n m lt later = by (cases_order n.word.from m.word.from) where
  by : (n.word.from ≡ m.word.from) ⊎ ((n.word.from < m.word.from) ⊎ (m.word.from < n.word.from)) → IsBefore n m
  by (inl e) = inr (e, lt)
  by (inr (inl l)) = inl l
  by (inr (inr l)) = absurd (true≢false (sym (is_before m n (inl l)) ∙ later))

-- ---- those ahead of a note, and the others

module _ (n : Note) where
  ahead_before : (ms : List Note) (k : Note) → Contains (ahead_of n ms) k → Contains ms k × IsBefore k n
  ahead_before [] k c = absurd (none_contained c)
  ahead_before (m ∷ ms) k c = by (comes_before m n) refl (λ d. ahead_before ms k d) c where
    by : (b : Bool) → comes_before m n ≡ b → (Contains (ahead_of n ms) k → Contains ms k × IsBefore k n) → Contains (if b then m ∷ ahead_of n ms else []) k → Contains (m ∷ ms) k × IsBefore k n
    by true e rest d = ⊎_elim (λ is. (subst (Contains (m ∷ ms)) is (first_item m ms), subst (λ (j : Note). IsBefore j n) is (before_is m n e)))
        (λ later. let more = rest later in (later_item m ms k more.0, more.1)) (cons_cases m (ahead_of n ms) k d)
    by false e rest d = absurd (none_contained d)

  there_contained : (ms : List Note) (k : Note) → Contains (from_there n ms) k → Contains ms k
  there_contained [] k c = c
  there_contained (m ∷ ms) k c = by (comes_before m n) (λ d. there_contained ms k d) c where
    by : (b : Bool) → (Contains (from_there n ms) k → Contains ms k) → Contains (if b then from_there n ms else m ∷ ms) k → Contains (m ∷ ms) k
    by true rest d = later_item m ms k (rest d)
    by false rest d = d

  either_part : (ms : List Note) (k : Note) → Contains ms k → Contains (ahead_of n ms) k ⊎ Contains (from_there n ms) k
  either_part [] k c = inl c
  either_part (m ∷ ms) k c = by (comes_before m n) (λ d. either_part ms k d) where
    by : (b : Bool) → (Contains ms k → Contains (ahead_of n ms) k ⊎ Contains (from_there n ms) k)
        → Contains (if b then m ∷ ahead_of n ms else []) k ⊎ Contains (if b then from_there n ms else m ∷ ms) k
    by true rest = ⊎_elim (λ is. inl (subst (Contains (m ∷ ahead_of n ms)) is (first_item m (ahead_of n ms))))
        (λ later. ⊎_elim (λ l. inl (later_item m (ahead_of n ms) k l)) (λ r. inr r) (rest later)) (cons_cases m ms k c)
    by false rest = inr c

  ahead_ascend : (ms : List Note) → AreAscending ms → AreAscending (ahead_of n ms)
  ahead_ascend [] a = tt
  ahead_ascend (m ∷ ms) a = by (comes_before m n) (ahead_ascend ms a.1) where
    by : (b : Bool) → AreAscending (ahead_of n ms) → AreAscending (if b then m ∷ ahead_of n ms else [])
    by true rest = ((λ k c. a.0 k (ahead_before ms k c).0), rest)
    by false rest = tt

  there_ascend : (ms : List Note) → AreAscending ms → AreAscending (from_there n ms)
  there_ascend [] a = tt
  there_ascend (m ∷ ms) a = by (comes_before m n) (there_ascend ms a.1) where
    by : (b : Bool) → AreAscending (from_there n ms) → AreAscending (if b then from_there n ms else m ∷ ms)
    by true rest = rest
    by false rest = a

  -- all of the others stand behind it, where their ranks are greater
  there_behind : (ms : List Note) → AreAscending ms → ((m : Note) → Contains ms m → rank n.kind < rank m.kind) → (k : Note) → Contains (from_there n ms) k → IsBefore n k
  there_behind [] a r k c = absurd (none_contained c)
  there_behind (m ∷ ms) a r k c = by (comes_before m n) refl (λ d. there_behind ms a.1 (λ j i. r j (later_item m ms j i)) k d) c where
    by : (b : Bool) → comes_before m n ≡ b → (Contains (from_there n ms) k → IsBefore n k) → Contains (if b then from_there n ms else m ∷ ms) k → IsBefore n k
    by true e rest d = rest d
    by false e rest d =
        let first = one_first n m (r m (first_item m ms)) e in
        ⊎_elim (λ is. subst (IsBefore n) is first) (λ later. behind_too n m k first (a.0 k later)) (cons_cases m ms k d)

-- ---- both lists

merged_either : (ns ms : List Note) (k : Note) → Contains (merged ns ms) k → Contains ns k ⊎ Contains ms k
merged_either [] ms k c = inr c
merged_either (n ∷ ns) ms k c =
    ⊎_elim (λ l. inr (ahead_before n ms k l).0)
    (λ r. ⊎_elim (λ is. inl (subst (Contains (n ∷ ns)) is (first_item n ns)))
    (λ later. ⊎_elim (λ l. inl (later_item n ns k l)) (λ m. inr (there_contained n ms k m)) (merged_either ns (from_there n ms) k later))
    (cons_cases n (merged ns (from_there n ms)) k r))
    (Contains-append_cases (ahead_of n ms) (n ∷ merged ns (from_there n ms)) k c)

merged_left : (ns ms : List Note) (k : Note) → Contains ns k → Contains (merged ns ms) k
merged_left [] ms k c = absurd (none_contained c)
merged_left (n ∷ ns) ms k c = Contains-append_right (ahead_of n ms) (n ∷ merged ns (from_there n ms)) k
    (⊎_elim (λ is. subst (Contains (n ∷ merged ns (from_there n ms))) is (first_item n (merged ns (from_there n ms))))
    (λ later. later_item n (merged ns (from_there n ms)) k (merged_left ns (from_there n ms) k later)) (cons_cases n ns k c))

merged_right : (ns ms : List Note) (k : Note) → Contains ms k → Contains (merged ns ms) k
merged_right [] ms k c = c
merged_right (n ∷ ns) ms k c =
    ⊎_elim (λ l. Contains-append_left (ahead_of n ms) (n ∷ merged ns (from_there n ms)) k l)
    (λ r. Contains-append_right (ahead_of n ms) (n ∷ merged ns (from_there n ms)) k
    (later_item n (merged ns (from_there n ms)) k (merged_right ns (from_there n ms) k r))) (either_part n ms k c)

merged_ascend : (ns ms : List Note) → AreAscending ns → AreAscending ms → ((n m : Note) → Contains ns n → Contains ms m → rank n.kind < rank m.kind) → AreAscending (merged ns ms)
merged_ascend [] ms a b r = b
merged_ascend (n ∷ ns) ms a b r =
    let rest : List Note = from_there n ms in
    let behind : (k : Note) → Contains (merged ns rest) k → IsBefore n k = λ k c.
    ⊎_elim (λ l. a.0 k l) (λ m. there_behind n ms b (λ m i. r n m (first_item n ns) i) k m) (merged_either ns rest k c) in
    joined (ahead_of n ms) (n ∷ merged ns rest) (ahead_ascend n ms b)
    (behind, merged_ascend ns rest a.1 (there_ascend n ms b) (λ j m c d. r j m (later_item n ns j c) (there_contained n ms m d)))
    (λ k m c d. let first = (ahead_before n ms k c).1 in
    ⊎_elim (λ is. subst (IsBefore k) is first) (λ later. behind_too k n m first (behind m later)) (cons_cases n (merged ns rest) m d))

module _ (low mid high : ℕ) (z : List ℕ) (ns ms : List Note) (l : low ≤ mid) (h : mid ≤ high) (a : AreRanked low mid z ns) (b : AreRanked mid high z ms) where
  pub both_ranked : AreRanked low high z (merged ns ms)
  both_ranked = record {
    order = merged_ascend ns ms a.order b.order (λ n m c d. let first = (a.kinds n c).1 in let second = (b.kinds m d).0 in omega (arith, first, second));
    are = λ n c. ⊎_elim (λ i. a.are n i) (λ i. b.are n i) (merged_either ns ms n c);
    kinds = λ n c. ⊎_elim (λ i. let k = a.kinds n i in let x = k.0 in let y = k.1 in (omega (arith, x), omega (arith, y, h)))
        (λ i. let k = b.kinds n i in let x = k.0 in let y = k.1 in (omega (arith, x, l), omega (arith, y))) (merged_either ns ms n c);
    all = λ n i x y. ⊎_elim (λ lt. merged_left ns ms n (a.all n i x lt)) (λ ge. merged_right ns ms n (b.all n i ge y)) (cases_lt (rank n.kind) mid);
    inside = λ n c. ⊎_elim (λ i. a.inside n i) (λ i. b.inside n i) (merged_either ns ms n c);
  }

-- the code's list
pub is_ranked : (low mid high : ℕ) (z : List ℕ) (ns ms all : List Note) → all ≡ merged ns ms → low ≤ mid → mid ≤ high → AreRanked low mid z ns → AreRanked mid high z ms → AreRanked low high z all
is_ranked low mid high z ns ms all e l h a b = subst (AreRanked low high z) (sym e) (both_ranked low mid high z ns ms l h a b)

-- ---- step by step

-- one more that stands ahead
pub ahead_more : (n : Note) (ms : List Note) (k : ℕ) (m : Note) → slice_get ms k ≡ Some m → comes_before m n ≡ true
    → (ahead_of n (drop k ms) ≡ m ∷ ahead_of n (drop (k + 1) ms)) × (from_there n (drop k ms) ≡ from_there n (drop (k + 1) ms))
ahead_more n ms k m got e =
    let here = drop_got ms k m got in (
      ap (ahead_of n) here ∙ ap (λ (b : Bool). if b then m ∷ ahead_of n (drop (k + 1) ms) else []) e,
      ap (from_there n) here ∙ ap (λ (b : Bool). if b then from_there n (drop (k + 1) ms) else m ∷ drop (k + 1) ms) e,
    )

-- and none more
pub ahead_end : (n : Note) (ms : List Note) (k : ℕ) (m : Note) → slice_get ms k ≡ Some m → comes_before m n ≡ false
    → (ahead_of n (drop k ms) ≡ []) × (from_there n (drop k ms) ≡ drop k ms)
ahead_end n ms k m got e =
    let here = drop_got ms k m got in (
      ap (ahead_of n) here ∙ ap (λ (b : Bool). if b then m ∷ ahead_of n (drop (k + 1) ms) else []) e,
      ap (from_there n) here ∙ ap (λ (b : Bool). if b then from_there n (drop (k + 1) ms) else m ∷ drop (k + 1) ms) e ∙ sym here,
    )
