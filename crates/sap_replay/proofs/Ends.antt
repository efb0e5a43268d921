-- Lists cut at their end.
use Rattle.std.proofs.Common.{◌≡◌, List, [], ◌∷◌, ◌++◌, ◌⊎◌, inl, inr, refl}

pub never_empty : {A : Type 0} (xs ys : List A) (y : A) → [] ≡ xs ++ y ∷ ys → ⊥
never_empty [] ys y e = cc
never_empty (x ∷ xs) ys y e = cc

-- the last of a list and what stands before it
pub same_ends : {A : Type 0} (xs ys : List A) (x y : A) → xs ++ x ∷ [] ≡ ys ++ y ∷ [] → (xs ≡ ys) × (x ≡ y)
same_ends [] [] x y e = (refl, cc)
same_ends [] (b ∷ ys) x y e = absurd (never_empty ys [] y (cc))
same_ends (a ∷ xs) [] x y e = absurd (never_empty xs [] x (cc))
same_ends (a ∷ xs) (b ∷ ys) x y e =
    let head : a ≡ b = cc in
    let rest = same_ends xs ys x y (cc) in
    ((λ i. head i ∷ rest.0 i), rest.1)

-- what stands in a list stands at its end, or before that
pub at_end : {A : Type 0} (xs before after : List A) (x y : A) → xs ++ x ∷ [] ≡ before ++ y ∷ after
    → ((xs ≡ before) × (x ≡ y)) ⊎ ((rest : List A) × (xs ≡ before ++ y ∷ rest))
at_end [] [] after x y e = inl (refl, cc)
at_end (a ∷ xs) [] after x y e = let head : a ≡ y = cc in inr (xs, λ i. head i ∷ xs)
at_end [] (b ∷ before) after x y e = absurd (never_empty before after y (cc))
at_end (a ∷ xs) (b ∷ before) after x y e =
    let head : a ≡ b = cc in
    elim (at_end xs before after x y (cc)) [
      | inl h ↦ inl ((λ i. head i ∷ h.0 i), h.1)
      | inr h ↦ inr (h.0, λ i. head i ∷ h.1 i)
    ]

-- nothing stands in an empty list
pub none_inside : {A : Type 0} (before after : List A) (y : A) → [] ≡ before ++ y ∷ after → ⊥
none_inside before after y e = never_empty before after y e
