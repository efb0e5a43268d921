-- The first number of which something holds.
use Rattle.std.proofs.Common.{ℕ, zero, suc, ◌<◌, inl, inr, arith, subst}
use Rattle.std.specs.Prelude.{◌⊎◌}
use Rattle.sap_terms.proofs.PlainLaws.Numbers.{same_number}

-- it holds of this number, and of nothing below it
abbrev pub IsLeast : (ℕ → Type 0) → ℕ → Type 0
IsLeast P k = P k × ((j : ℕ) → j < k → ¬ P j)

-- whether it holds of one below this number
below : (P : ℕ → Type 0) → ((k : ℕ) → P k ⊎ (P k → ⊥)) → (n : ℕ) → ((k : ℕ) × IsLeast P k) ⊎ ((j : ℕ) → j < n → P j → ⊥)
below P d zero = inr (λ j l h. omega (arith, l))
below P d (suc n) = by (below P d n) (d n) where
  none_at : ((j : ℕ) → j < n → P j → ⊥) → (P n → ⊥) → (j : ℕ) → j < suc n → P j → ⊥
  none_at nothing refuted j l h = refuted (subst P (same_number j n (λ m. nothing j m h) (λ m. omega (arith, l, m))) h)

  by : ((k : ℕ) × IsLeast P k) ⊎ ((j : ℕ) → j < n → P j → ⊥) → P n ⊎ (P n → ⊥) → ((k : ℕ) × IsLeast P k) ⊎ ((j : ℕ) → j < suc n → P j → ⊥)
  by (inl found) e = inl found
  by (inr nothing) (inl h) = inl (n, (h, nothing))
  by (inr nothing) (inr refuted) = inr (none_at nothing refuted)

pub least : (P : ℕ → Type 0) → ((k : ℕ) → P k ⊎ (P k → ⊥)) → (n : ℕ) → P n → (k : ℕ) × IsLeast P k
least P d n h = by (below P d (suc n)) where
  by : ((k : ℕ) × IsLeast P k) ⊎ ((j : ℕ) → j < suc n → P j → ⊥) → (k : ℕ) × IsLeast P k
  by (inl found) = found
  by (inr nothing) = absurd (nothing n (omega arith) h)
