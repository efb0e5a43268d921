-- The places of a process, each with the variables in scope there, those of locks included.
use Rattle.std.specs.Prelude.{ℕ, zero, suc, List, [], ◌∷◌, ◌++◌, Option, Some}
use Rattle.sap_terms.specs.declared.var.Var.{Var}
use Rattle.sap_process.specs.Scopes.{scope_behind}
use Rattle.sap_process.specs.Places.{Descent, Place, place, place_below, place_from}
use Rattle.sap_process.specs.Proc.{Proc, act, lookup}
use Rattle.sap_process.specs.Sites.{message_var}

-- the variables in scope at a child, those of locks included; `lookup` binds in its first branch only
abbrev pub scope_handed_down : Descent (List Var)
scope_handed_down v (act a p) e = scope_behind v a
scope_handed_down v (lookup t x p q) (suc zero) = v ++ message_var x ∷ []
scope_handed_down v _ e = v

-- a place with the variables in scope there
abbrev pub ScopedPlace : Type 0
ScopedPlace = Place (List Var)

-- child 1 or 2
abbrev pub child : ScopedPlace → ℕ → Option ScopedPlace
child a e = place_below scope_handed_down a e

-- the place at this path from here
abbrev pub scoped_place_at : Option ScopedPlace → List ℕ → Option ScopedPlace
scoped_place_at o path = place_from scope_handed_down o path

-- the process itself, where nothing is in scope
abbrev pub root : Proc → Option ScopedPlace
root p = Some (place [] [] p)
