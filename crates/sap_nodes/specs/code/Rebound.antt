-- Where what a head binds stands, as the code finds it.
use Rattle.std.specs.Prelude.{ℕ, List, Option, Some, None, min, if◌then◌else◌}
use Rattle.sap_terms.specs.Tree.{node_count}
use Rattle.sap_terms.specs.Variables.{is_known}
use Rattle.sap_terms.specs.declared.var.Var.{Var}
use Rattle.sap_process.specs.Action.{Action, new}
use Rattle.sap_process.specs.Proc.{Proc, act, lookup}
use Rattle.sap_process.specs.Sites.{var_names}
use Rattle.sap_nodes.specs.code.Searches.{most}

-- in front of all else, where an action binds a name that is in scope
abbrev pub action_binder_at : List Var → Action → Option ℕ
action_binder_at scope (new x) = if is_known (var_names scope) x.name then Some 0 else None
action_binder_at scope _ = None

-- behind the key, where a look-up does
abbrev pub binder_at : List Var → Proc → Option ℕ
binder_at scope (act a p) = action_binder_at scope a
binder_at scope (lookup t x p q) = if is_known (var_names scope) x.name then Some (min (node_count t) most) else None
binder_at scope _ = None
