-- A file that is refused for a second process, or for a name that stands twice, has the word that is told.
use Rattle.std.proofs.Common.{◌≡◌, ◌<◌, ℕ, zero, suc, true, false, List, length, drop, subst, arith, ◌⊎◌, inl, inr, ⊎_elim}
use Rattle.std.proofs.lemmas.Bool.{cases_Bool, cases_order}
use Rattle.sap_terms.proofs.PlainLaws.Known.{clash}
use Rattle.sap_text.specs.declared.token.Token.{Token}
use Rattle.sap_grammar.specs.Words.{words_of}
use Rattle.sap_where.specs.declared.find.Beginning.{Beginning}
use Rattle.sap_where.specs.declared.find.Beginning.TheVariants.{Definition, Statement}
use Rattle.sap_where.specs.Where.{BeginsAt, HoldsOnce, IsFirst, IsSecond, IsTakenAt, begins, only_statement, second_definition, second_statement}
use Rattle.sap_where.proofs.ItemNames.{From, HasTwo}

-- of what can be decided of each number, and holds of none from a bound on
module _ (P : ℕ → Type 0) (decide : (k : ℕ) → P k ⊎ (P k → ⊥)) where
  -- the first below a number, or none
  search : (n : ℕ) → ((k : ℕ) × (k < n) × IsFirst P k) ⊎ ((i : ℕ) → i < n → P i → ⊥)
  search zero = inr (λ i lt p. absurd (omega (arith, lt)))
  search (suc n) = by (search n) (decide n)
    where
      by : ((k : ℕ) × (k < n) × IsFirst P k) ⊎ ((i : ℕ) → i < n → P i → ⊥) → P n ⊎ (P n → ⊥)
          → ((k : ℕ) × (k < suc n) × IsFirst P k) ⊎ ((i : ℕ) → i < suc n → P i → ⊥)
      by (inl f) d = let lt = f.1 in inl (f.0, omega (arith, lt), f.2)
      by (inr none) (inl p) = inl (n, omega arith, record { is = p; none_before = none })
      by (inr none) (inr isnt) =
          inr (λ i lt p. ⊎_elim (λ same. isnt (subst P same p)) (λ o. ⊎_elim (λ l. none i l p) (λ l. absurd (omega (arith, lt, l))) o) (cases_order i n))

  pub first_there : (k : ℕ) → P k → (j : ℕ) × IsFirst P j
  first_there k p = ⊎_elim (λ f. (f.0, f.2)) (λ none. absurd (none k (omega arith) p)) (search (suc k))

-- behind a number
abbrev Behind : (ℕ → Type 0) → ℕ → ℕ → Type 0
Behind P n k = P k × (n < k)

decided_behind : (P : ℕ → Type 0) → ((k : ℕ) → P k ⊎ (P k → ⊥)) → (n k : ℕ) → Behind P n k ⊎ (Behind P n k → ⊥)
decided_behind P decide n k = by (decide k) (cases_order n k)
  where
    by : P k ⊎ (P k → ⊥) → (n ≡ k) ⊎ ((n < k) ⊎ (k < n)) → Behind P n k ⊎ (Behind P n k → ⊥)
    by (inl p) (inr (inl lt)) = inl (p, lt)
    by (inl p) (inl same) = inr (λ h. let lt = h.1 in absurd (omega (arith, same, lt)))
    by (inl p) (inr (inr lt)) = inr (λ h. let also = h.1 in absurd (omega (arith, also, lt)))
    by (inr isnt) o = inr (λ h. isnt h.0)

module _ (P : ℕ → Type 0) (decide : (k : ℕ) → P k ⊎ (P k → ⊥)) where
  -- the first behind the first is the second
  is_second : (j k : ℕ) → IsFirst P j → IsFirst (Behind P j) k → IsSecond P k
  is_second j k f s = record {
    is = s.is.0;
    first = j;
    before = s.is.1;
    is_first = f.is;
    no_other = λ i lt p. ⊎_elim (λ same. same)
        (λ o. ⊎_elim (λ l. absurd (f.none_before i l p)) (λ l. absurd (s.none_before i lt (p, l))) o) (cases_order i j);
  }

  second_there : HasTwo P → (k : ℕ) × IsSecond P k
  second_there h =
      let f = first_there P decide h.first h.is_first in
      let before = order f.0 f.1 in
      let s = first_there (Behind P f.0) (decided_behind P decide f.0) h.second (h.is_second, before) in
      (s.0, is_second f.0 s.0 f.1 s.1)
    where
      order : (j : ℕ) → IsFirst P j → j < h.second
      order j f =
          let lt = h.order in
          ⊎_elim (λ same. omega (arith, same, lt)) (λ o. ⊎_elim (λ l. omega (arith, l, lt)) (λ l. absurd (f.none_before h.first l h.is_first)) o) (cases_order j h.first)

  -- there is a second one, or it holds of one at most
  pub second_or_once : (n : ℕ) → ((i : ℕ) → P i → i < n) → ((k : ℕ) × IsSecond P k) ⊎ HoldsOnce P
  second_or_once n within = by (search P decide n)
    where
      by : ((k : ℕ) × (k < n) × IsFirst P k) ⊎ ((i : ℕ) → i < n → P i → ⊥) → ((k : ℕ) × IsSecond P k) ⊎ HoldsOnce P
      by (inr none) = inr (λ i j lt p q. none i (within i p) p)
      by (inl f) = ⊎_elim (λ s. inl (s.0, is_second f.0 s.0 f.2 s.2))
          (λ none. inr (λ i j lt p q. none j (within j q) (q, behind i j lt p))) (search (Behind P f.0) (decided_behind P decide f.0) n)
        where
          behind : (i j : ℕ) → i < j → P i → f.0 < j
          behind i j lt p =
              ⊎_elim (λ same. omega (arith, same, lt)) (λ o. ⊎_elim (λ l. omega (arith, l, lt)) (λ l. absurd (f.2.none_before i l p)) o) (cases_order f.0 i)

module _ (z : List ℕ) (ts : List Token) (b : Beginning) (x : List ℕ) where
  -- whether an item of a kind begins somewhere can be decided
  pub decided : (k : ℕ) → BeginsAt z ts b x k ⊎ (BeginsAt z ts b x k → ⊥)
  decided k = by (cases_order k (length ts)) (cases_Bool (begins b x (words_of z (drop k ts))))
    where
      by : (k ≡ length ts) ⊎ ((k < length ts) ⊎ (length ts < k)) → (begins b x (words_of z (drop k ts)) ≡ true) ⊎ (begins b x (words_of z (drop k ts)) ≡ false)
          → BeginsAt z ts b x k ⊎ (BeginsAt z ts b x k → ⊥)
      by (inr (inl lt)) (inl is) = inl (record { inside = lt; is = is })
      by (inr (inl lt)) (inr isnt) = inr (λ h. clash _ h.is isnt)
      by (inl same) o = inr (λ h. let lt = h.inside in absurd (omega (arith, same, lt)))
      by (inr (inr more)) o = inr (λ h. let lt = h.inside in absurd (omega (arith, more, lt)))

pub second_begins : (z : List ℕ) (ts : List Token) (b : Beginning) (x : List ℕ) → HasTwo (BeginsAt z ts b x) → (k : ℕ) × IsSecond (BeginsAt z ts b x) k
second_begins z ts b x h = second_there (BeginsAt z ts b x) (decided z ts b x) h

-- a name that two definitions have, or a restriction or lemma, is taken somewhere
pub taken_by_two : (z : List ℕ) (ts : List Token) (x : List ℕ) → HasTwo (BeginsAt z ts Definition x) → (k : ℕ) × IsTakenAt z ts x k
taken_by_two z ts x h = let s = second_begins z ts Definition x h in (s.0, second_definition s.1)

pub taken_by_one : (z : List ℕ) (ts : List Token) (x : List ℕ) (n : ℕ) → From (BeginsAt z ts Statement x) n → (k : ℕ) × IsTakenAt z ts x k
taken_by_one z ts x n h = by (second_or_once (BeginsAt z ts Definition x) (decided z ts Definition x) (length ts) (λ i p. p.inside))
    (second_or_once (BeginsAt z ts Statement x) (decided z ts Statement x) (length ts) (λ i p. p.inside))
    (first_there (BeginsAt z ts Statement x) (decided z ts Statement x) h.number h.is)
  where
    by : ((k : ℕ) × IsSecond (BeginsAt z ts Definition x) k) ⊎ HoldsOnce (BeginsAt z ts Definition x)
        → ((k : ℕ) × IsSecond (BeginsAt z ts Statement x) k) ⊎ HoldsOnce (BeginsAt z ts Statement x) → (k : ℕ) × IsFirst (BeginsAt z ts Statement x) k
        → (k : ℕ) × IsTakenAt z ts x k
    by (inl s) o f = (s.0, second_definition s.1)
    by (inr once) (inl s) f = (s.0, second_statement once s.1)
    by (inr once) (inr one) f = (f.0, only_statement once one f.1)
