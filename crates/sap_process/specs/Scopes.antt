-- The places of a process whose locks have labels, each with what is in scope there, the variables of locks included, and which
-- locks are open.
use Rattle.std.specs.Prelude.{ℕ, zero, suc, List, [], ◌∷◌, ◌++◌, codes, decimal, filter, not, nat_eq}
use Rattle.sap_terms.specs.Variables.{facts_vars, new_vars, tree_vars}
use Rattle.sap_terms.specs.declared.var.Sort.TheVariants.{Fresh}
use Rattle.sap_terms.specs.declared.var.Var.{Var}
use Rattle.sap_process.specs.Action as action
use Rattle.sap_process.specs.Action.{Action}
use Rattle.sap_process.specs.Places.{Descent, Place, place, places_from}
use Rattle.sap_process.specs.Proc.{Proc, act, lookup}
use Rattle.sap_process.specs.Sites.{fresh_var, message_var, var_names}

-- the variable of the lock with this label
abbrev pub lock_var : ℕ → Var
lock_var n = record { name = codes "sapic_lock" ++ decimal n; sort = Fresh }

-- these, and the first occurrences of those whose names are new
abbrev pub with_new : List Var → List Var → List Var
with_new v ws = v ++ new_vars (var_names v) ws

-- the scope behind an action, where the variable of a lock counts too
abbrev pub scope_behind : List Var → Action → List Var
scope_behind v (action.new x) = v ++ fresh_var x ∷ []
scope_behind v (action.out m) = v
scope_behind v (action.send m n) = v
scope_behind v (action.input m) = with_new v (tree_vars m)
scope_behind v (action.receive m n) = with_new v (tree_vars n)
scope_behind v (action.event f) = v
scope_behind v (action.insert m n) = v
scope_behind v (action.delete m) = v
scope_behind v (action.lock m i) = v ++ lock_var i ∷ []
scope_behind v (action.unlock m i) = v
scope_behind v (action.embedded l e r) = with_new v (facts_vars (l ++ (e ++ r)))

-- the labels of the locks that are open behind an action, the outermost first
abbrev pub locks_behind : List ℕ → Action → List ℕ
locks_behind ls (action.lock t n) = ls ++ n ∷ []
locks_behind ls (action.unlock t n) = filter (λ l. not (nat_eq l n)) ls
locks_behind ls _ = ls

-- the variables in scope at a place, in order of binding, those of locks included, and the labels of the locks that are open
-- there, the outermost first
pub record LockScope : Type 0 where
  pub scope : List Var
  pub open_locks : List ℕ

abbrev pub lock_scope : List Var → List ℕ → LockScope
lock_scope v ls = record { scope = v; open_locks = ls }

-- what a place hands down to a child of that; `lookup` binds in its first branch only
abbrev pub lock_scope_below : Descent LockScope
lock_scope_below u (act a p) e = lock_scope (scope_behind u.scope a) (locks_behind u.open_locks a)
lock_scope_below u (lookup t x p q) (suc zero) =
    lock_scope (u.scope ++ message_var x ∷ []) u.open_locks
lock_scope_below u _ e = u

-- a place with what is in scope there and the locks that are open
abbrev pub Spot : Type 0
Spot = Place LockScope

abbrev pub spot : List ℕ → List Var → List ℕ → Proc → Spot
spot path v ls p = place path (lock_scope v ls) p

-- the places from this one on, in preorder
abbrev pub spots_from : List ℕ → List Var → List ℕ → Proc → List Spot
spots_from path v ls p = places_from lock_scope_below path (lock_scope v ls) p

-- all places
abbrev pub spots : Proc → List Spot
spots p = spots_from [] [] [] p
