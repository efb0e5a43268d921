-- Items of lists by their indexes.
use Rattle.std.proofs.Common.{◌≡◌, ◌<◌, ◌+◌, ℕ, zero, suc, List, [], ◌∷◌, ◌++◌, length, Some, refl, ap, ◌⊎◌, inl, inr, arith}
use Rattle.std.specs.Prelude.{slice_get, slice_set, All}
use Rattle.std.proofs.lemmas.List.Elements.{All-contains}
use Rattle.sap_terms.proofs.PlainLaws.Items.{contains_got}

-- an item stays where more is put last
pub get-more : {X : Type 0} (xs ys : List X) (k : ℕ) (x : X) → slice_get xs k ≡ Some x → slice_get (xs ++ ys) k ≡ Some x
get-more [] ys k x h = cc
get-more (y ∷ xs) ys zero x h = h
get-more (y ∷ xs) ys (suc k) x h = get-more xs ys k x h

-- what is put behind a list stands there
pub get-behind : {X : Type 0} (xs ys : List X) (k : ℕ) → slice_get (xs ++ ys) (length xs + k) ≡ slice_get ys k
get-behind [] ys k = let e : 0 + k ≡ k = omega arith in rw e refl
get-behind (x ∷ xs) ys k = let e : suc (length xs) + k ≡ suc (length xs + k) = omega arith in rw e (get-behind xs ys k)

pub get-last : {X : Type 0} (xs : List X) (x : X) → slice_get (xs ++ x ∷ []) (length xs) ≡ Some x
get-last [] x = refl
get-last (y ∷ xs) x = get-last xs x

-- an item of two lists is one of the first or of the second
pub get-cases : {X : Type 0} (xs ys : List X) (k : ℕ) (x : X) → slice_get (xs ++ ys) k ≡ Some x
    → (slice_get xs k ≡ Some x) ⊎ ((j : ℕ) × (k ≡ length xs + j) × (slice_get ys j ≡ Some x))
get-cases [] ys k x h = inr (k, omega arith, h)
get-cases (y ∷ xs) ys zero x h = inl h
get-cases (y ∷ xs) ys (suc k) x h =
    elim (get-cases xs ys k x h) [ inl l ↦ inl l | inr r ↦ inr (r.0, omega (arith, r.1), r.2) ]

pub get-last_cases : {X : Type 0} (xs : List X) (y : X) (k : ℕ) (x : X) → slice_get (xs ++ y ∷ []) k ≡ Some x
    → (slice_get xs k ≡ Some x) ⊎ ((k ≡ length xs) × (x ≡ y))
get-last_cases [] y zero x h = inr (refl, (cc))
get-last_cases [] y (suc k) x h = cc
get-last_cases (z ∷ xs) y zero x h = inl h
get-last_cases (z ∷ xs) y (suc k) x h =
    elim (get-last_cases xs y k x h) [ inl l ↦ inl l | inr r ↦ inr (ap suc r.0, r.1) ]

-- an item that is written
pub get-set : {X : Type 0} (xs : List X) (k : ℕ) (v : X) → k < length xs → slice_get (slice_set xs k v) k ≡ Some v
get-set [] k v l = absurd (omega arith)
get-set (x ∷ xs) zero v l = refl
get-set (x ∷ xs) (suc k) v l = get-set xs k v (omega arith)

-- and the others
pub get-set_other : {X : Type 0} (xs : List X) (k : ℕ) (v : X) (j : ℕ) → ¬ (j ≡ k) → slice_get (slice_set xs k v) j ≡ slice_get xs j
get-set_other [] k v j n = refl
get-set_other (x ∷ xs) zero v zero n = absurd (n refl)
get-set_other (x ∷ xs) zero v (suc j) n = refl
get-set_other (x ∷ xs) (suc k) v zero n = refl
get-set_other (x ∷ xs) (suc k) v (suc j) n = get-set_other xs k v j (λ e. n (ap suc e))

-- one item alone stands at an index
pub get-one : {X : Type 0} (xs : List X) (k : ℕ) (x y : X) → slice_get xs k ≡ Some x → slice_get xs k ≡ Some y → x ≡ y
get-one xs k x y g h = cc

-- two numbers are one or two
pub same-or_not : (m n : ℕ) → (m ≡ n) ⊎ ¬ (m ≡ n)
same-or_not zero zero = inl refl
same-or_not zero (suc n) = inr (λ (e : zero ≡ suc n). absurd (omega arith))
same-or_not (suc m) zero = inr (λ (e : suc m ≡ zero). absurd (omega arith))
same-or_not (suc m) (suc n) = elim (same-or_not m n) [ inl e ↦ inl (ap suc e) | inr h ↦ inr (λ (e : suc m ≡ suc n). h (omega arith)) ]

pub append-none : {X : Type 0} (xs : List X) → xs ≡ xs ++ []
append-none [] = refl
append-none (x ∷ xs) = ap (λ ys. x ∷ ys) (append-none xs)

-- lists of one item and of two
pub only-item : {X : Type 0} (xs : List X) (x : X) → length xs ≡ 1 → slice_get xs 0 ≡ Some x → xs ≡ x ∷ []
only-item [] x l e = cc
only-item (y ∷ []) x l e = let s : y ≡ x = cc in ap (λ z. z ∷ []) s
only-item (y ∷ z ∷ xs) x l e = absurd (omega arith)

pub two-items : {X : Type 0} (xs : List X) (x y : X) → length xs ≡ 2 → slice_get xs 0 ≡ Some x → slice_get xs 1 ≡ Some y → xs ≡ x ∷ y ∷ []
two-items [] x y l e f = cc
two-items (a ∷ []) x y l e f = absurd (omega arith)
two-items (a ∷ b ∷ []) x y l e f = let s : a ≡ x = cc in let t : b ≡ y = cc in λ i. s i ∷ t i ∷ []
two-items (a ∷ b ∷ c ∷ xs) x y l e f = absurd (omega arith)

-- what holds of each item holds of one
pub all-got : {X : Type 0} (P : X → Type 0) (xs : List X) (k : ℕ) (x : X) → All P xs → slice_get xs k ≡ Some x → P x
all-got P xs k x all e = All-contains P xs x all (contains_got xs x k e)

-- there is an item below the length
pub got-within : {X : Type 0} (xs : List X) (k : ℕ) → k < length xs → (x : X) × (slice_get xs k ≡ Some x)
got-within [] k l = absurd (omega arith)
got-within (x ∷ xs) zero l = (x, refl)
got-within (x ∷ xs) (suc k) l = got-within xs k (omega arith)
