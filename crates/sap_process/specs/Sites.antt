-- The places of a process, each with what is in scope there.
use Rattle.std.specs.Prelude.{ℕ, zero, suc, ◌+◌, List, [], ◌∷◌, ◌++◌, map}
use Rattle.sap_terms.specs.declared.var.Sort.TheVariants.{Msg, Fresh}
use Rattle.sap_terms.specs.declared.var.Var.{Var}
use Rattle.sap_terms.specs.Variables.{tree_vars, facts_vars, new_vars}
use Rattle.sap_process.specs.Action.{Action, new, input, receive, embedded}
use Rattle.sap_process.specs.Proc.{Proc, act, lookup}
use Rattle.sap_process.specs.Heads.{locks_set}
use Rattle.sap_process.specs.Places.{Descent, Place, places_from}

-- their names
abbrev pub var_names : List Var → List (List ℕ)
var_names vs = map (λ (v : Var). v.name) vs

-- the variable as one that stands for a fresh name
abbrev pub fresh_var : Var → Var
fresh_var x = record { name = x.name; sort = Fresh }

-- as one that stands for any message
abbrev pub message_var : Var → Var
message_var x = record { name = x.name; sort = Msg }

-- what an action binds where these are in scope, each variable with the sort of its binder: `new` a fresh name; a pattern
-- its names that are not in scope, as they are first written; an embedded rule those of its three sides, left side first;
-- among them are those that nothing binds, which `unbound_at` tells: a process without a flaw has none
abbrev pub bound_by : List Var → Action → List Var
bound_by scope (new x) = fresh_var x ∷ []
bound_by scope (input t) = new_vars (var_names scope) (tree_vars t)
bound_by scope (receive t u) = new_vars (var_names scope) (tree_vars u)
bound_by scope (embedded l e r) = new_vars (var_names scope) (facts_vars (l ++ (e ++ r)))
bound_by scope _ = []

-- what the places above a place bind and lock
pub record Above : Type 0 where
  -- the variables that they bind, in order of binding
  pub scope : List Var
  -- how many locks they set
  pub locks : ℕ

-- these variables, and so many locks
abbrev pub above_of : List Var → ℕ → Above
above_of scope k = record { scope = scope; locks = k }

-- what a place hands down to a child of that; `lookup` binds in its first branch only
abbrev pub scope_below : Descent Above
scope_below u (act a p) e = above_of (u.scope ++ bound_by u.scope a) (u.locks + locks_set a)
scope_below u (lookup t x p q) (suc zero) = above_of (u.scope ++ message_var x ∷ []) u.locks
scope_below u _ e = u

-- a place with what the places above it bind and lock
abbrev pub Site : Type 0
Site = Place Above

-- the places from this one on, in preorder
abbrev pub sites_from : List ℕ → List Var → ℕ → Proc → List Site
sites_from path scope k p = places_from scope_below path (above_of scope k) p

-- all places, where these are in scope at the root
abbrev pub sites_in : List Var → Proc → List Site
sites_in scope p = sites_from [] scope 0 p

-- and where nothing is
abbrev pub sites : Proc → List Site
sites p = sites_in [] p
