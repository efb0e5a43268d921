-- The places of a process, each with what is handed down to it, the place at a path, and the order of places.
use Rattle.std.specs.Prelude.{◌≡◌, ◌<◌, ◌⊎◌, ℕ, zero, suc, List, [], ◌∷◌, ◌++◌, Option, Some, None}
use Rattle.std.specs.Option.{option_map}
use Rattle.sap_process.specs.Proc.{Proc, nil, parallel, replicated, act, test, lookup}

-- what a place hands down to a child: from what was handed down to it, the process there, and the child's digit
abbrev pub Descent : Type 0 → Type 0
Descent S = S → Proc → ℕ → S

-- a place: its path, what was handed down to it, and the process there
pub record Place (S : Type 0) : Type 0 where
  pub path : List ℕ
  pub above : S
  pub body : Proc

-- the place with this path, what was handed down, and the process
abbrev pub place : {S : Type 0} → List ℕ → S → Proc → Place S
place path s p = record { path = path; above = s; body = p }

-- the places from this one on, in preorder
abbrev pub places_from : {S : Type 0} → Descent S → List ℕ → S → Proc → List (Place S)
places_from d path s nil = place path s nil ∷ []
places_from d path s (parallel p q) =
    place path s (parallel p q)
    ∷ (places_from d (path ++ 1 ∷ []) (d s (parallel p q) 1) p ++ places_from d (path ++ 2 ∷ []) (d s (parallel p q) 2) q)
places_from d path s (replicated p) =
    place path s (replicated p) ∷ places_from d (path ++ 1 ∷ []) (d s (replicated p) 1) p
places_from d path s (act a p) =
    place path s (act a p) ∷ places_from d (path ++ 1 ∷ []) (d s (act a p) 1) p
places_from d path s (test t u p q) =
    place path s (test t u p q)
    ∷ (places_from d (path ++ 1 ∷ []) (d s (test t u p q) 1) p ++ places_from d (path ++ 2 ∷ []) (d s (test t u p q) 2) q)
places_from d path s (lookup t x p q) =
    place path s (lookup t x p q)
    ∷ (places_from d (path ++ 1 ∷ []) (d s (lookup t x p q) 1) p ++ places_from d (path ++ 2 ∷ []) (d s (lookup t x p q) 2) q)

-- those below it
abbrev pub places_below : {S : Type 0} → Descent S → List ℕ → S → Proc → List (Place S)
places_below d path s nil = []
places_below d path s (parallel p q) =
    places_from d (path ++ 1 ∷ []) (d s (parallel p q) 1) p
    ++ places_from d (path ++ 2 ∷ []) (d s (parallel p q) 2) q
places_below d path s (replicated p) = places_from d (path ++ 1 ∷ []) (d s (replicated p) 1) p
places_below d path s (act a p) = places_from d (path ++ 1 ∷ []) (d s (act a p) 1) p
places_below d path s (test t u p q) =
    places_from d (path ++ 1 ∷ []) (d s (test t u p q) 1) p
    ++ places_from d (path ++ 2 ∷ []) (d s (test t u p q) 2) q
places_below d path s (lookup t x p q) =
    places_from d (path ++ 1 ∷ []) (d s (lookup t x p q) 1) p
    ++ places_from d (path ++ 2 ∷ []) (d s (lookup t x p q) 2) q

-- all places, where this is handed down to the root
abbrev pub places : {S : Type 0} → Descent S → S → Proc → List (Place S)
places d s p = places_from d [] s p

-- the children of a process, by their digits
abbrev pub first_child : Proc → Option Proc
first_child nil = None
first_child (parallel p q) = Some p
first_child (replicated p) = Some p
first_child (act a p) = Some p
first_child (test t u p q) = Some p
first_child (lookup t x p q) = Some p

abbrev pub second_child : Proc → Option Proc
second_child (parallel p q) = Some q
second_child (test t u p q) = Some q
second_child (lookup t x p q) = Some q
second_child _ = None

abbrev pub child : Proc → ℕ → Option Proc
child p zero = None
child p (suc zero) = first_child p
child p (suc (suc zero)) = second_child p
child p (suc (suc (suc e))) = None

-- the place below a place at a digit
abbrev pub place_below : {S : Type 0} → Descent S → Place S → ℕ → Option (Place S)
place_below d a e = option_map (place (a.path ++ e ∷ []) (d a.above a.body e)) (child a.body e)

-- the place that the digits lead to
abbrev pub place_from : {S : Type 0} → Descent S → Option (Place S) → List ℕ → Option (Place S)
place_from d None path = None
place_from d (Some a) [] = Some a
place_from d (Some a) (e ∷ path) = place_from d (place_below d a e) path

-- from the root on
abbrev pub place_at : {S : Type 0} → Descent S → S → Proc → List ℕ → Option (Place S)
place_at d s p path = place_from d (Some (place [] s p)) path

-- in preorder the first place stands before the second: it stands above it, or turns off at a lesser digit
abbrev pub IsBefore : List ℕ → List ℕ → Type 0
IsBefore [] [] = ⊥
IsBefore [] (e ∷ b) = Unit {0}
IsBefore (d ∷ a) [] = ⊥
IsBefore (d ∷ a) (e ∷ b) = (d < e) ⊎ ((d ≡ e) × IsBefore a b)
