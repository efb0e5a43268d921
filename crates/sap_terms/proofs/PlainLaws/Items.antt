-- Which items a list has.
use Rattle.std.proofs.Common.{◌≡◌, ℕ, zero, suc, List, [], ◌∷◌, Some, ap, ◌∙◌, ◌⊎◌, inl, inr, arith}
use Rattle.std.specs.Prelude.{Contains, slice_get}
use Rattle.std.proofs.lemmas.List.Elements.{Contains-push, Contains-append_left, Contains-append_right}
use Rattle.std.proofs.lemmas.Option.{slice_get-get_or, slice_get_within, get_or_from_slice_get}

pub first_item : {X : Type 0} (x : X) (xs : List X) → Contains (x ∷ xs) x
first_item x xs = Contains-append_left (x ∷ []) xs x (Contains-push [] x)

pub later_item : {X : Type 0} (x : X) (xs : List X) (y : X) → Contains xs y → Contains (x ∷ xs) y
later_item x xs y m = Contains-append_right (x ∷ []) xs y m

-- an empty list has none
pub none_contained : {X : Type 0} {x : X} → Contains [] x → ⊥
none_contained c = let few = c.1 in omega (arith, few)

-- the only item
pub item_cases : {X : Type 0} (v w : X) → Contains (v ∷ []) w → v ≡ w
item_cases v w (zero, below, e) = e
item_cases v w (suc k, below, e) = absurd (omega (arith, below))

-- an item of a list is its first one or a later one
pub cons_cases : {X : Type 0} (x : X) (xs : List X) (y : X) → Contains (x ∷ xs) y → (x ≡ y) ⊎ Contains xs y
cons_cases x xs y (zero, below, e) = inl e
cons_cases x xs y (suc k, below, e) = inr (k, omega (arith, below), e)

-- an item stands at an index
pub contains_got : {X : Type 0} (xs : List X) (x : X) (k : ℕ) → slice_get xs k ≡ Some x → Contains xs x
contains_got xs x k e = (k, slice_get_within xs k x e, get_or_from_slice_get xs k x x e)

pub got_contained : {X : Type 0} (xs : List X) (x : X) → Contains xs x → (k : ℕ) × (slice_get xs k ≡ Some x)
got_contained xs x (k, lt, e) = (k, slice_get-get_or xs k x lt ∙ ap Some e)
