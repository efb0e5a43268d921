-- Roles on the way down, node by node.
use Rattle.std.specs.Prelude.{ℕ, List, [], ◌∷◌, Bool, Option, Some, None, if◌then◌else◌}
use Rattle.sap_macro.specs.Indexed.{IsIndex}
use Rattle.sap_macro.specs.Written.{Definition}
use Rattle.std.specs.Option.{option_or}
use Rattle.sap_roles.specs.Roles.{given}
use Rattle.sap_roles.specs.PlacesAlong.{PlaceAt, begins_threads}

-- with which role one goes on from a node, where one comes to it with this one
abbrev pub role_below : Option (List ℕ) → PlaceAt → Option (List ℕ)
role_below r n = if begins_threads n.place then None else option_or r (given n)

-- the role at the last of these, where one comes to them with this one
abbrev pub role_down : Option (List ℕ) → List PlaceAt → Option (List ℕ)
role_down r [] = r
role_down r (n ∷ []) = option_or r (given n)
role_down r (n ∷ m ∷ ns) = role_down (role_below r n) (m ∷ ns)

-- the same by numbers of definitions: at a node at which something is done or isn't, and below one at which threads begin or don't
abbrev pub number_here : Bool → Option ℕ → Option ℕ → Option ℕ
number_here a l (Some k) = Some k
number_here a l None = if a then l else None

abbrev pub number_below : Bool → Bool → Option ℕ → Option ℕ → Option ℕ
number_below b a l r = if b then None else number_here a l r

-- the number is that of the name's definition; or there is neither
abbrev pub AreOne : List Definition → Option ℕ → Option (List ℕ) → Type 0
AreOne es None None = Unit {0}
AreOne es None (Some f) = ⊥
AreOne es (Some k) None = ⊥
AreOne es (Some k) (Some f) = IsIndex es f (Some k)
