-- A process whose variables have the sorts of their binders.
use Rattle.std.specs.Prelude.{List, [], ◌∷◌, ◌++◌}
use Rattle.std.specs.Option.{option_map_or}
use Rattle.sap_terms.specs.Choice.{Choice, instance}
use Rattle.sap_terms.specs.Tree.{variable}
use Rattle.sap_terms.specs.declared.var.Var.{Var}
use Rattle.sap_process.specs.Action.{Action, new}
use Rattle.sap_process.specs.Instance.{action_instance}
use Rattle.sap_process.specs.Proc.{Proc, nil, parallel, replicated, act, test, lookup}
use Rattle.sap_process.specs.Sites.{bound_by, fresh_var, message_var}
use Rattle.sap_process.specs.Flaws.{binder_of}

-- each variable with the sort of its binder in the scope
abbrev pub by_binder : List Var → Choice
by_binder scope v =
    option_map_or (λ (b : Var). variable (record { name = v.name; sort = b.sort }))
    (binder_of scope v.name) (variable v)

-- the action, where `new` binds a fresh name
abbrev pub binding_fresh : Action → Action
binding_fresh (new x) = new (fresh_var x)
binding_fresh a = a

-- where these are in scope, the process with the sorts of binders; `new` binds a fresh name and `lookup` any term
abbrev pub with_sorts : List Var → Proc → Proc
with_sorts scope nil = nil
with_sorts scope (parallel p q) = parallel (with_sorts scope p) (with_sorts scope q)
with_sorts scope (replicated p) = replicated (with_sorts scope p)
with_sorts scope (act a p) =
    act (binding_fresh (action_instance (by_binder (scope ++ bound_by scope a)) a))
    (with_sorts (scope ++ bound_by scope a) p)
with_sorts scope (test t u p q) =
    test (instance (by_binder scope) t) (instance (by_binder scope) u) (with_sorts scope p)
    (with_sorts scope q)
with_sorts scope (lookup t x p q) =
    lookup (instance (by_binder scope) t) (message_var x)
    (with_sorts (scope ++ message_var x ∷ []) p) (with_sorts scope q)
