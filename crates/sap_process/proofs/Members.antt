-- Tests of lists, and the items that pass.
use Rattle.std.proofs.Common.{◌≡◌, List, [], ◌∷◌, Bool, true, false, not, ◌||◌, inl, inr, arith, refl, sym, ap, ◌∙◌}
use Rattle.std.specs.Prelude.{◌⊎◌, Contains}
use Rattle.std.specs.List.{list_any}
use Rattle.std.proofs.lemmas.List.Elements.{Contains-append_right, Contains-append_cases, Contains-push_cases}

pub member-head : {X : Type 0} (x : X) (xs : List X) → Contains (x ∷ xs) x
member-head x xs = (0, omega arith, refl)

pub member-tail : {X : Type 0} (x : X) (xs : List X) (y : X) → Contains xs y → Contains (x ∷ xs) y
member-tail x xs y h = Contains-append_right (x ∷ []) xs y h

pub member-none : {X : Type 0} (y : X) → Contains [] y → ⊥
member-none y h = omega (arith, h.1)

pub member-cases : {X : Type 0} (x : X) (xs : List X) (y : X) → Contains (x ∷ xs) y → (x ≡ y) ⊎ Contains xs y
member-cases {X} x xs y h = by (Contains-append_cases (x ∷ []) xs y h) where
  first : Contains (x ∷ []) y → x ≡ y
  first k = elim (Contains-push_cases [] x y k) as (λ _. x ≡ y) [ inl n ↦ absurd (member-none y n) | inr e ↦ e ]

  by : Contains (x ∷ []) y ⊎ Contains xs y → (x ≡ y) ⊎ Contains xs y
  by (inl k) = inl (first k)
  by (inr k) = inr k

-- one passes
pub any-found : {X : Type 0} (p : X → Bool) (xs : List X) → list_any p xs ≡ true → (x : X) × Contains xs x × (p x ≡ true)
any-found p [] h = cc
any-found {X} p (x ∷ xs) h = by (p x) refl h (any-found p xs) where
  by : (b : Bool) → p x ≡ b → (b || list_any p xs) ≡ true → (list_any p xs ≡ true → (y : X) × Contains xs y × (p y ≡ true)) → (y : X) × Contains (x ∷ xs) y × (p y ≡ true)
  by true e k later = (x, member-head x xs, e)
  by false e k later = let found = later k in (found.0, member-tail x xs found.0 found.1, found.2)

pub any-holds : {X : Type 0} (p : X → Bool) (xs : List X) (x : X) → Contains xs x → p x ≡ true → list_any p xs ≡ true
any-holds p [] x h e = absurd (member-none x h)
any-holds {X} p (y ∷ ys) x h e = by (member-cases y ys x h) (λ k. any-holds p ys x k e) where
  rest : (b : Bool) → list_any p ys ≡ true → (b || list_any p ys) ≡ true
  rest true k = refl
  rest false k = k

  by : (y ≡ x) ⊎ Contains ys x → (Contains ys x → list_any p ys ≡ true) → (p y || list_any p ys) ≡ true
  by (inl same) later = ap (λ b. b || list_any p ys) (ap p same ∙ e)
  by (inr k) later = rest (p y) (later k)

pub not-true : (b : Bool) → not b ≡ true → b ≡ false
not-true true h = sym h
not-true false h = refl

pub not-false : (b : Bool) → not b ≡ false → b ≡ true
not-false true h = refl
not-false false h = sym h

pub or-left : (a b : Bool) → (a || b) ≡ false → a ≡ false
or-left true b h = h
or-left false b h = refl

pub or-right : (a b : Bool) → (a || b) ≡ false → b ≡ false
or-right true b h = cc
or-right false b h = h

pub or-cases : (a b : Bool) → (a || b) ≡ true → (a ≡ true) ⊎ (b ≡ true)
or-cases true b h = inl refl
or-cases false b h = inr h
