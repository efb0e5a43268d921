-- A list up to an item and from it on, and what stands in front of a list.
use Rattle.std.proofs.Common.{◌≡◌, ℕ, zero, suc, ◌+◌, List, [], ◌∷◌, ◌++◌, length, take, drop, add-one, map, Some, refl, ap, ◌∙◌}
use Rattle.std.specs.Prelude.{slice_get}
use Rattle.std.proofs.lemmas.List.{map_push}

-- one more item
pub take_got : {X : Type 0} (xs : List X) (k : ℕ) (x : X) → slice_get xs k ≡ Some x → take (k + 1) xs ≡ take k xs ++ x ∷ []
take_got {X} xs k x h = rw add-one (at xs k h) where
  at : (xs : List X) (k : ℕ) → slice_get xs k ≡ Some x → take (suc k) xs ≡ take k xs ++ x ∷ []
  at [] k h = cc
  at (y ∷ ys) zero h = let e : y ≡ x = cc in ap (λ z. z ∷ []) e
  at (y ∷ ys) (suc k) h = ap (λ zs. y ∷ zs) (at ys k h)

-- one more item of a list that is mapped
pub map_got : {X Y : Type 0} (f : X → Y) (xs : List X) (k : ℕ) (x : X) → slice_get xs k ≡ Some x → map f (take (k + 1) xs) ≡ map f (take k xs) ++ f x ∷ []
map_got f xs k x h = rw (take_got xs k x h, map_push) refl

-- one item less
pub drop_got : {X : Type 0} (xs : List X) (k : ℕ) (x : X) → slice_get xs k ≡ Some x → drop k xs ≡ x ∷ drop (k + 1) xs
drop_got {X} xs k x h = rw add-one (at xs k h) where
  at : (xs : List X) (k : ℕ) → slice_get xs k ≡ Some x → drop k xs ≡ x ∷ drop (suc k) xs
  at [] k h = cc
  at (y ∷ ys) zero h = let e : y ≡ x = cc in ap (λ z. z ∷ ys) e
  at (y ∷ ys) (suc k) h = at ys k h

-- a list stands in front of itself
pub front_self : {X : Type 0} (xs : List X) → take (length xs) xs ≡ xs
front_self [] = refl
front_self (x ∷ xs) = ap (λ zs. x ∷ zs) (front_self xs)

-- what stands in front of a front stands in front
pub front_of_front : {X : Type 0} (xs ys zs : List X) → take (length xs) ys ≡ xs → take (length ys) zs ≡ ys → take (length xs) zs ≡ xs
front_of_front [] ys zs h k = refl
front_of_front (x ∷ xs) [] zs h k = cc
front_of_front (x ∷ xs) (y ∷ ys) [] h k = cc
front_of_front (x ∷ xs) (y ∷ ys) (z ∷ zs) h k =
    let first : y ≡ x = cc in
    let later : take (length xs) ys ≡ xs = cc in
    let first_of : z ≡ y = cc in
    let later_of : take (length ys) zs ≡ ys = cc in
    λ i. (first_of ∙ first) i ∷ front_of_front xs ys zs later later_of i

-- it stays there where more is put last
pub front_kept : {X : Type 0} (xs ys zs : List X) → take (length xs) ys ≡ xs → take (length xs) (ys ++ zs) ≡ xs
front_kept [] ys zs h = refl
front_kept (x ∷ xs) [] zs h = cc
front_kept (x ∷ xs) (y ∷ ys) zs h =
    let first : y ≡ x = cc in
    let later : take (length xs) ys ≡ xs = cc in
    λ i. first i ∷ front_kept xs ys zs later i

pub ruleset front_laws = (front_self, front_of_front, front_kept)
