-- Sums of weights over lists.
use Rattle.sap_translate.specs.relation.Totals.{total}
use Rattle.std.proofs.Common.{◌≡◌, ℕ, zero, suc, ◌+◌, ◌<◌, List, [], ◌∷◌, ◌++◌, Some, refl, arith, slice_get, slice_set}

pub total-append : {A : Type 0} (w : A → ℕ) (xs ys : List A) → total w (xs ++ ys) ≡ total w xs + total w ys
total-append w [] ys = omega arith
total-append w (x ∷ xs) ys = omega (arith, total-append w xs ys)

pub total-set : {A : Type 0} (w : A → ℕ) (xs : List A) (t : ℕ) (x y : A) → slice_get xs t ≡ Some x → total w (slice_set xs t y) + w x ≡ total w xs + w y
total-set w [] t x y e = cc
total-set w (z ∷ xs) zero x y e = let same : w z ≡ w x = cc in omega (arith, same)
total-set w (z ∷ xs) (suc t) x y e = omega (arith, total-set w xs t x y e)

-- what has weight can be found
pub record Found {A : Type 0} (w : A → ℕ) (xs : List A) : Type 0 where
  pub number : ℕ
  pub item : A
  pub is : slice_get xs number ≡ Some item
  pub counts : 0 < w item

pub total_found : {A : Type 0} (w : A → ℕ) (xs : List A) → 0 < total w xs → Found w xs
total_found w [] h = absurd (omega arith)
total_found {A} w (x ∷ xs) h = go (w x) refl (total_found w xs)
  where
    go : (n : ℕ) → w x ≡ n → (0 < total w xs → Found w xs) → Found w (x ∷ xs)
    go zero e more = let f = more (omega arith) in record { number = suc f.number; item = f.item; is = f.is; counts = f.counts }
    go (suc n) e more = record { number = 0; item = x; is = refl; counts = omega arith }
