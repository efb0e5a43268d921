-- Where parameters of one definition can stand, and which is the second of a name.
use Rattle.std.proofs.Common.{◌≡◌, ◌≤◌, ◌<◌, ◌+◌, ℕ, zero, suc, true, false, List, length, drop, refl, sym, ap, subst, ◌∙◌, arith, ◌⊎◌, inl, inr, ⊎_elim}
use Rattle.std.proofs.lemmas.List.{drop_all}
use Rattle.std.specs.Prelude.{codes, ◌&&◌}
use Rattle.sap_terms.proofs.PlainLaws.Known.{clash}
use Rattle.sap_terms.proofs.PlainLaws.Numbers.{same_number}
use Rattle.sap_terms.proofs.PlainLaws.Tests.{and_left}
use Rattle.sap_text.specs.declared.token.Token.{Token}
use Rattle.sap_grammar.specs.Words.{starts, words_of}
use Rattle.sap_grammar.specs.Reading.{names}
use Rattle.sap_where.specs.TokenWords.{is_named, stands}
use Rattle.sap_where.specs.Parameters.{CanBeParameter, IsParameter, goes_on, opens_parameters, parameter_at}
use Rattle.sap_where.specs.Where.{HoldsOnce, IsRepeatedAt, IsSecond}

last_or_before : (j k : ℕ) → j < k + 1 → (j < k) ⊎ (j ≡ k)
last_or_before zero zero lt = inr refl
last_or_before zero (suc k) lt = inl (omega arith)
last_or_before (suc j) zero lt = absurd (omega (arith, lt))
last_or_before (suc j) (suc k) lt = ⊎_elim (λ l. inl (omega (arith, l))) (λ e. inr (ap suc e)) (last_or_before j k (omega (arith, lt)))

module _ (z : List ℕ) (ts : List Token) (i : ℕ) where
  Can : ℕ → Type 0
  Can n = CanBeParameter z ts i n

  pub first_can : opens_parameters z ts i ≡ true → CanBeParameter z ts i (i + 3)
  first_can opens = record { opens = opens; number = 0; place = refl; before = λ j lt. absurd (omega (arith, lt)) }

  pub next_can : (n : ℕ) → CanBeParameter z ts i n → goes_on z ts n ≡ true → CanBeParameter z ts i (n + 2)
  next_can n h on =
      let at = h.place in record {
        opens = h.opens;
        number = h.number + 1;
        place = omega (arith, at);
        before = λ j lt. ⊎_elim (λ l. h.before j l) (λ e. subst (λ (m : ℕ). goes_on z ts m ≡ true) (at ∙ ap (λ (k : ℕ). parameter_at i k) (sym e)) on) (last_or_before j h.number lt);
      }

  -- of two places the first goes on, and the second isn't next to it
  pub on : (n m : ℕ) → CanBeParameter z ts i n → CanBeParameter z ts i m → n < m → (goes_on z ts n ≡ true) × (n + 2 ≤ m)
  on n m a b lt =
      let p = a.place in
      let q = b.place in
      let less : a.number < b.number = omega (arith, p, q, lt) in
      (subst (λ (k : ℕ). goes_on z ts k ≡ true) (sym p) (b.before a.number less), omega (arith, p, q, less))

  pub low : (n : ℕ) → CanBeParameter z ts i n → i + 3 ≤ n
  low n a = let p = a.place in omega (arith, p)

  module _ (x : List ℕ) where
    -- the name isn't at n, where the list goes on, nor before
    pub none_next : (from n : ℕ) → CanBeParameter z ts i n → names x (words_of z (drop n ts)) ≡ false
        → ((m : ℕ) → from ≤ m → m < n → IsParameter z ts x i m → ⊥) → (m : ℕ) → from ≤ m → m < n + 2 → IsParameter z ts x i m → ⊥
    none_next from n can never none m le lt p =
        let same : m ≡ n =
        same_number m n (λ before. none m le before p) (λ behind. let far = (on n m can p.can behind).1 in absurd (omega (arith, far, lt))) in
        clash (names x (words_of z (drop n ts))) (subst (λ (k : ℕ). names x (words_of z (drop k ts)) ≡ true) same p.is) never

    -- the list doesn't go on
    pub none_behind : (from n : ℕ) → CanBeParameter z ts i n → names x (words_of z (drop n ts)) ≡ false → goes_on z ts n ≡ false
        → ((m : ℕ) → from ≤ m → m < n → IsParameter z ts x i m → ⊥) → (m : ℕ) → from ≤ m → IsParameter z ts x i m → ⊥
    none_behind from n can never ends none m le p =
        let same : m ≡ n =
        same_number m n (λ before. none m le before p) (λ behind. clash (goes_on z ts n) (on n m can p.can behind).0 ends) in
        clash (names x (words_of z (drop n ts))) (subst (λ (k : ℕ). names x (words_of z (drop k ts)) ≡ true) same p.is) never

    -- no word is left
    pub past_end : (m : ℕ) → length ts ≤ m → IsParameter z ts x i m → ⊥
    past_end m le p = clash true refl (sym (subst (λ (us : List Token). names x (words_of z us) ≡ true) (drop_all m ts le) p.is))

    pub second_is : (k j : ℕ) → IsParameter z ts x i k → ((m : ℕ) → i + 3 ≤ m → m < k → IsParameter z ts x i m → ⊥) → k + 2 ≤ j
        → IsParameter z ts x i j → ((m : ℕ) → k + 2 ≤ m → m < j → IsParameter z ts x i m → ⊥) → IsSecond (IsParameter z ts x i) j
    second_is k j first none far second none_too = record {
      is = second;
      first = k;
      before = omega (arith, far);
      is_first = first;
      no_other = λ m lt p. same_number m k (λ before. none m (low m p.can) before p) (λ behind. none_too m (on k m first.can p.can behind).1 lt p);
    }

    pub none_opened : opens_parameters z ts i ≡ false → HoldsOnce (IsParameter z ts x i)
    none_opened never a b lt p q = clash (opens_parameters z ts i) p.can.opens never

    pub none_first : ((m : ℕ) → i + 3 ≤ m → IsParameter z ts x i m → ⊥) → HoldsOnce (IsParameter z ts x i)
    none_first none a b lt p q = none a (low a p.can) p

    pub only_first : (k : ℕ) → IsParameter z ts x i k → goes_on z ts k ≡ false → ((m : ℕ) → i + 3 ≤ m → m < k → IsParameter z ts x i m → ⊥)
        → HoldsOnce (IsParameter z ts x i)
    only_first k first ends none a b lt p q =
        let behind : (a < k → ⊥) → k < b = λ n. behind_first a b k lt n in
        clash (goes_on z ts k) (on k b first.can q.can (behind (λ l. none a (low a p.can) l p))).0 ends
      where
        behind_first : (a b k : ℕ) → a < b → (a < k → ⊥) → k < b
        behind_first a b k lt n = ⊎_elim (λ l. absurd (n l)) (λ l. omega (arith, l, lt)) (order a k)
          where
            order : (a k : ℕ) → (a < k) ⊎ (k ≤ a)
            order zero zero = inr (omega arith)
            order zero (suc k) = inl (omega arith)
            order (suc a) zero = inr (omega arith)
            order (suc a) (suc k) = ⊎_elim (λ l. inl (omega (arith, l))) (λ l. inr (omega (arith, l))) (order a k)

    pub none_second : (k : ℕ) → IsParameter z ts x i k → ((m : ℕ) → i + 3 ≤ m → m < k → IsParameter z ts x i m → ⊥)
        → ((m : ℕ) → k + 2 ≤ m → IsParameter z ts x i m → ⊥) → HoldsOnce (IsParameter z ts x i)
    none_second k first none none_too a b lt p q =
        let same : a ≡ k =
        same_number a k (λ before. none a (low a p.can) before p) (λ behind. none_too a (on k a first.can p.can behind).1 p) in
        let far : k < b = omega (arith, same, lt) in
        none_too b (on k b first.can q.can far).1 q

-- behind the last token no definition begins
pub none_begun : (z : List ℕ) (ts : List Token) (x : List ℕ) (i : ℕ) → length ts ≤ i → HoldsOnce (IsParameter z ts x i)
none_begun z ts x i le a b lt p q =
    let opens = and_left (stands z ts (codes "let") i) (is_named z ts (i + 1)) (and_left (stands z ts (codes "let") i && is_named z ts (i + 1)) (stands z ts (codes "(") (i + 2)) p.can.opens) in
    clash true refl (sym (subst (λ (us : List Token). starts (codes "let") (words_of z us) ≡ true) (drop_all i ts le) opens))

-- so of all, where it is so of those before
pub once_all : (z : List ℕ) (ts : List Token) (x : List ℕ) (k : ℕ) → length ts ≤ k → ((i : ℕ) → i < k → HoldsOnce (IsParameter z ts x i)) → (i : ℕ) → HoldsOnce (IsParameter z ts x i)
once_all z ts x k le h i a b lt p q =
    none_begun z ts x i (least i k le (λ l. h i l a b lt p q)) a b lt p q
  where
    least : (i k : ℕ) → length ts ≤ k → (i < k → ⊥) → length ts ≤ i
    least i k le n = ⊎_elim (λ l. absurd (n l)) (λ l. omega (arith, l, le)) (order i k)
      where
        order : (a k : ℕ) → (a < k) ⊎ (k ≤ a)
        order zero zero = inr (omega arith)
        order zero (suc k) = inl (omega arith)
        order (suc a) zero = inr (omega arith)
        order (suc a) (suc k) = ⊎_elim (λ l. inl (omega (arith, l))) (λ l. inr (omega (arith, l))) (order a k)

pub once_next : (z : List ℕ) (ts : List Token) (x : List ℕ) (k : ℕ) → HoldsOnce (IsParameter z ts x k) → ((i : ℕ) → i < k → HoldsOnce (IsParameter z ts x i))
    → (i : ℕ) → i < k + 1 → HoldsOnce (IsParameter z ts x i)
once_next z ts x k here h i lt =
    ⊎_elim (λ l. h i l) (λ e. subst (λ (j : ℕ). HoldsOnce (IsParameter z ts x j)) (sym e) here) (last_or_before i k lt)

pub repeated_is : (z : List ℕ) (ts : List Token) (x : List ℕ) (i k : ℕ) → IsSecond (IsParameter z ts x i) k → ((j : ℕ) → j < i → HoldsOnce (IsParameter z ts x j)) → IsRepeatedAt z ts x k
repeated_is z ts x i k second none = record {
  item = i;
  second = second;
  none_before = λ j m lt s. none j lt s.first m s.before s.is_first s.is;
}

-- one definition is the first that has two
pub one_item : (z : List ℕ) (ts : List Token) (x : List ℕ) (j k : ℕ) (a : IsRepeatedAt z ts x j) (b : IsRepeatedAt z ts x k) → a.item ≡ b.item
one_item z ts x j k a b = same_number a.item b.item (λ lt. b.none_before a.item j lt a.second) (λ lt. a.none_before b.item k lt b.second)

-- one token is the second, in the first definition that has two
module _ (z : List ℕ) (ts : List Token) (x : List ℕ) (one_second : (P : ℕ → Type 0) (j k : ℕ) → IsSecond P j → IsSecond P k → j ≡ k) where
  pub one_repeated : (j k : ℕ) → IsRepeatedAt z ts x j → IsRepeatedAt z ts x k → j ≡ k
  one_repeated j k a b =
      let same = one_item z ts x j k a b in
      one_second (IsParameter z ts x b.item) j k (subst (λ (i : ℕ). IsSecond (IsParameter z ts x i) j) same a.second) b.second
