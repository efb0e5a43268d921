-- The numbers of facts, where some are taken and some come.
use Rattle.std.proofs.Common.{◌≡◌, ℕ, zero, suc, ◌+◌, List, [], ◌∷◌, ◌++◌, Some, refl, ap, arith, slice_get, slice_set, length}
use Rattle.sap_translate.proofs.Shared.Lookups.{get_within}

pub length-slice_set : {A : Type 0} (xs : List A) (t : ℕ) (y : A) → length (slice_set xs t y) ≡ length xs
length-slice_set [] t y = refl
length-slice_set (x ∷ xs) zero y = refl
length-slice_set (x ∷ xs) (suc t) y = ap (λ n. suc n) (length-slice_set xs t y)

-- an item of the second of two lists
pub get_at : {A : Type 0} (xs ys : List A) (i n : ℕ) → n ≡ length xs + i → slice_get (xs ++ ys) n ≡ slice_get ys i
get_at [] ys i n e = let same : n ≡ i = omega arith in ap (λ m. slice_get ys m) same
get_at (x ∷ xs) ys i zero e = absurd (omega arith)
get_at (x ∷ xs) ys i (suc n) e = get_at xs ys i n (omega arith)

-- the number of a fact that is there is not the next
pub apart_next : {A : Type 0} (xs : List A) (k i : ℕ) (x : A) → slice_get xs k ≡ Some x → k ≡ length xs + i → ⊥
apart_next xs k i x e same = let lt = get_within xs k x e in absurd (omega arith)

-- a later write at the same place, and writes at two places
pub set_twice : {A : Type 0} (xs : List A) (i : ℕ) (y z : A) → slice_set (slice_set xs i y) i z ≡ slice_set xs i z
set_twice [] i y z = refl
set_twice (x ∷ xs) zero y z = refl
set_twice (x ∷ xs) (suc i) y z = ap (λ v. x ∷ v) (set_twice xs i y z)

pub set_apart : {A : Type 0} (xs : List A) (i j : ℕ) (y z : A) → (i ≡ j → ⊥) → slice_set (slice_set xs i y) j z ≡ slice_set (slice_set xs j z) i y
set_apart [] i j y z h = refl
set_apart (x ∷ xs) zero zero y z h = absurd (h refl)
set_apart (x ∷ xs) zero (suc j) y z h = refl
set_apart (x ∷ xs) (suc i) zero y z h = refl
set_apart (x ∷ xs) (suc i) (suc j) y z h = ap (λ v. x ∷ v) (set_apart xs i j y z (λ e. h (ap (λ n. suc n) e)))
