-- Which role a thread has by the place to which one comes along its path.
use Rattle.std.specs.Prelude.{◌≡◌, ◌⊎◌, ℕ, List, [], ◌∷◌, ◌++◌, true, false, Option, None, All, if◌then◌else◌}
use Rattle.std.specs.Option.{option_or}
use Rattle.sap_macro.specs.Located.{Located}
use Rattle.sap_origin.specs.Definitions.{LocatedDefinition}
use Rattle.sap_origin.specs.Origins.{start}
use Rattle.sap_origin.specs.Reached.{Reaches, Standing}
use Rattle.sap_roles.specs.PlacesAlong.{PlaceAt, places_along, begins_threads, acts}

-- the role that a place gives, where a thread does something there: the innermost `let` in which it stands
abbrev pub given : PlaceAt → Option (List ℕ)
given n = if acts n.place then n.inside else None

-- the one that the first of these gives that gives one
abbrev pub first_given : List PlaceAt → Option (List ℕ)
first_given [] = None
first_given (n ∷ ns) = option_or (given n) (first_given ns)

abbrev pub BeginsThreads : PlaceAt → Type 0
BeginsThreads n = begins_threads n.place ≡ true

abbrev pub BeginsNone : PlaceAt → Type 0
BeginsNone n = begins_threads n.place ≡ false

-- there are none, or threads begin at the last
abbrev pub EndsWhereThreadsBegin : List PlaceAt → Type 0
EndsWhereThreadsBegin ns = (ns ≡ []) ⊎ ((ms : List PlaceAt) × (m : PlaceAt) × (ns ≡ ms ++ m ∷ []) × BeginsThreads m)

-- The role at the last of these places, if there is one: of those behind the last `|` or `!` above it the first that gives one.
pub record IsRoleOn (ns : List PlaceAt) (role : Option (List ℕ)) : Type 0 where
  pub before : List PlaceAt
  pub since : List PlaceAt
  pub last : PlaceAt
  pub places_are : ns ≡ before ++ (since ++ last ∷ [])
  pub ends : EndsWhereThreadsBegin before
  pub stays : All BeginsNone since
  pub role_is : role ≡ first_given (since ++ last ∷ [])

-- along this path one comes, from a process behind whose item so many words of the file are, to a place, and this is the role there, the
-- name of a `let`, or there is none
pub record IsRoleAt (ds : List LocatedDefinition) (p : Located) (behind : ℕ) (path : List ℕ)
    (role : Option (List ℕ)) : Type 0 where
  pub standing : Standing
  pub place : Located
  pub reaches : Reaches ds (start behind) p path standing place
  pub is_role : IsRoleOn (places_along None reaches) role
