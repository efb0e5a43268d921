-- What is in a list.
use Rattle.std.proofs.Common.{◌≡◌, List, [], ◌∷◌, inl, inr, arith, refl}
use Rattle.std.specs.Prelude.{◌⊎◌, Contains}
use Rattle.std.proofs.lemmas.List.Elements.{Contains-append_right, Contains-append_cases, Contains-push_cases}

pub member-head : {X : Type 0} (x : X) (xs : List X) → Contains (x ∷ xs) x
member-head x xs = (0, omega arith, refl)

pub member-tail : {X : Type 0} (x : X) (xs : List X) (y : X) → Contains xs y → Contains (x ∷ xs) y
member-tail x xs y h = Contains-append_right (x ∷ []) xs y h

pub member-none : {X : Type 0} (y : X) → Contains [] y → ⊥
member-none y h = omega (arith, h.1)

pub member-cases : {X : Type 0} (x : X) (xs : List X) (y : X) → Contains (x ∷ xs) y → (x ≡ y) ⊎ Contains xs y
member-cases {X} x xs y h = by (Contains-append_cases (x ∷ []) xs y h) where
  first : Contains (x ∷ []) y → x ≡ y
  first k = elim (Contains-push_cases [] x y k) as (λ _. x ≡ y) [ inl n ↦ absurd (member-none y n) | inr e ↦ e ]

  by : Contains (x ∷ []) y ⊎ Contains xs y → (x ≡ y) ⊎ Contains xs y
  by (inl k) = inl (first k)
  by (inr k) = inr k
