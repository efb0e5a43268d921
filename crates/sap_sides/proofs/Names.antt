-- Names that were made, as a set and as a list.
use Rattle.std.proofs.Common.{◌≡◌, ◌<◌, ℕ, zero, suc, Bool, true, false, nat_eq, List, [], ◌∷◌, ◌++◌, length, get_or, IsTrue, ◌↔◌, ◌⊎◌, inl, inr, refl, sym, ◌∙◌, arith}
use Rattle.std.specs.List.{list_any, Contains}
use Rattle.std.proofs.lemmas.Bool.{false≢true}
use Rattle.indexmap.specs.IndexSet.{insert_key}

nat_cases : (k j : ℕ) → ((nat_eq k j ≡ true) × (k ≡ j)) ⊎ ((nat_eq k j ≡ false) × (¬ (k ≡ j)))
nat_cases k j = grind arith

later : (x : ℕ) (xs : List ℕ) (n : ℕ) → Contains xs n → Contains (x ∷ xs) n
later x xs n (k, lt, e) = (suc k, omega arith, e)

any-Contains : (ns : List ℕ) (n : ℕ) → list_any (nat_eq n) ns ≡ true → Contains ns n
any-Contains [] n e = absurd (false≢true e)
any-Contains (x ∷ xs) n e = elim (nat_cases n x) [ inl same ↦ (zero, omega arith, sym same.1) | inr other ↦ later x xs n (any-Contains xs n (rw other.0 at e)) ]

Contains-any : (ns : List ℕ) (n k : ℕ) → k < length ns → get_or ns k n ≡ n → list_any (nat_eq n) ns ≡ true
Contains-any [] n k lt e = absurd (omega arith)
Contains-any (x ∷ xs) n zero lt e = elim (nat_cases n x) [ inl same ↦ rw same.0 refl | inr other ↦ absurd (other.1 (sym e)) ]
Contains-any (x ∷ xs) n (suc k) lt e = elim (nat_cases n x) [ inl same ↦ rw same.0 refl | inr other ↦ rw other.0 (Contains-any xs n k (omega arith) e) ]

pub any_decides : (ns : List ℕ) (n : ℕ) (b : Bool) → b ≡ list_any (nat_eq n) ns → IsTrue b ↔ Contains ns n
any_decides ns n b e = (λ h. any-Contains ns n (sym e ∙ h), λ (k, lt, is). e ∙ Contains-any ns n k lt is)

pub new_is_last : (ns : List ℕ) (n : ℕ) → (Contains ns n → ⊥) → insert_key nat_eq ns n ≡ ns ++ n ∷ []
new_is_last ns n new = by (list_any (nat_eq n) ns) refl where
  by : (b : Bool) → list_any (nat_eq n) ns ≡ b → insert_key nat_eq ns n ≡ ns ++ n ∷ []
  by true p = absurd (new (any-Contains ns n p))
  by false p = rw p refl
