-- The places by which one comes to a written place along a path.
use Rattle.std.specs.Prelude.{ℕ, List, [], ◌∷◌, Bool, true, false, Option, Some}
use Rattle.sap_macro.specs.Located.{Located, nil_at, call_at, parallel_at, replicated_at, act_at, test_at, lookup_at}
use Rattle.sap_origin.specs.Definitions.{LocatedDefinition}
use Rattle.sap_origin.specs.Reached.{Reaches, Standing, reaches_here, reaches_use, reaches_left, reaches_right, reaches_copy, reaches_behind, reaches_then, reaches_else, reaches_found, reaches_missing}

-- a place, and the name of the innermost `let` in whose body it stands
pub record PlaceAt : Type 0 where
  pub place : Located
  pub inside : Option (List ℕ)

abbrev pub place_in : Located → Option (List ℕ) → PlaceAt
place_in p l = record { place = p; inside = l }

-- those by which one comes so, from one that stands in this `let`, down to the place itself; a use is none, and leads into its `let`
abbrev pub places_along : {ds : List LocatedDefinition} {s z : Standing} {p q : Located} {path : List ℕ}
    → Option (List ℕ) → Reaches ds s p path z q → List PlaceAt
places_along l (reaches_here {p = p} f) = place_in p l ∷ []
places_along l (reaches_use {f = f} e g n) = places_along (Some f) n
places_along l (reaches_left {k = k} {p = p} {r = r} n) = place_in (parallel_at k p r) l ∷ places_along l n
places_along l (reaches_right {k = k} {p = p} {r = r} n) = place_in (parallel_at k p r) l ∷ places_along l n
places_along l (reaches_copy {k = k} {p = p} n) = place_in (replicated_at k p) l ∷ places_along l n
places_along l (reaches_behind {k = k} {a = a} {p = p} n) = place_in (act_at k a p) l ∷ places_along l n
places_along l (reaches_then {k = k} {t = t} {u = u} {p = p} {r = r} n) = place_in (test_at k t u p r) l ∷ places_along l n
places_along l (reaches_else {k = k} {t = t} {u = u} {p = p} {r = r} n) = place_in (test_at k t u p r) l ∷ places_along l n
places_along l (reaches_found {k = k} {t = t} {x = x} {p = p} {r = r} n) =
    place_in (lookup_at k t x p r) l ∷ places_along l n
places_along l (reaches_missing {k = k} {t = t} {x = x} {p = p} {r = r} n) =
    place_in (lookup_at k t x p r) l ∷ places_along l n

-- it is `|` or `!`: threads begin there
abbrev pub begins_threads : Located → Bool
begins_threads (nil_at k) = false
begins_threads (call_at k f ts) = false
begins_threads (parallel_at k p q) = true
begins_threads (replicated_at k p) = true
begins_threads (act_at k a p) = false
begins_threads (test_at k t u p q) = false
begins_threads (lookup_at k t x p q) = false

-- a thread does something there else than begin others or end
abbrev pub acts : Located → Bool
acts (nil_at k) = false
acts (call_at k f ts) = false
acts (parallel_at k p q) = false
acts (replicated_at k p) = false
acts (act_at k a p) = true
acts (test_at k t u p q) = true
acts (lookup_at k t x p q) = true
