-- What the code leaves of a head: what is in scope behind it, and the numbers of its nodes that are told.
use Rattle.std.specs.Prelude.{ℕ, List, [], ◌∷◌, ◌++◌, Option, Some, None, if◌then◌else◌}
use Rattle.sap_terms.specs.Tree as tree
use Rattle.sap_terms.specs.Tree.{Tree, node_count}
use Rattle.sap_terms.specs.Variables.{is_known}
use Rattle.sap_terms.specs.declared.fact.Fact.{Fact}
use Rattle.sap_terms.specs.declared.var.Var.{Var}
use Rattle.sap_process.specs.Action.{Action, new, out, send, input, receive, event, insert, delete, lock, unlock, embedded}
use Rattle.sap_process.specs.Proc.{Proc, nil, parallel, replicated, act, test, lookup}
use Rattle.sap_process.specs.Sites.{fresh_var, var_names}
use Rattle.sap_nodes.specs.HeadNodes.{facts_nodes, tree_nodes}
use Rattle.sap_nodes.specs.declared.part.Part.TheVariants.{Pattern, Shown, Given}
use Rattle.sap_captures.specs.code.Bindings.{bound_all}
use Rattle.sap_captures.specs.declared.binding.Binding.{Binding}

-- in front of the node of this number, where none is noted
abbrev pub started : ℕ → Binding → Binding
started k b = record { scope = b.scope; at = k; nodes = [] }

-- behind the three sides of an embedded rule
abbrev pub bound_rule : Binding → List Fact → List Fact → List Fact → Binding
bound_rule b l e r =
    bound_all Given (bound_all Shown (bound_all Pattern b (facts_nodes Pattern l)) (facts_nodes Shown e)) (facts_nodes Given r)

-- behind an action
abbrev pub bound_action : Binding → Action → Binding
bound_action b (new x) = record { scope = b.scope ++ fresh_var x ∷ []; at = 0; nodes = [] }
bound_action b (out t) = started 0 b
bound_action b (send t u) = started 0 b
bound_action b (input t) = bound_all Pattern (started 0 b) (tree_nodes Pattern t)
bound_action b (receive t u) = bound_all Pattern (started (node_count t) b) (tree_nodes Pattern u)
bound_action b (event f) = started 0 b
bound_action b (insert t u) = started 0 b
bound_action b (delete t) = started 0 b
bound_action b (lock t n) = started 0 b
bound_action b (unlock t n) = started 0 b
bound_action b (embedded l e r) = bound_rule (started 0 b) l e r

-- behind a head
abbrev pub bound_head : Binding → Proc → Binding
bound_head b nil = started 0 b
bound_head b (parallel p q) = started 0 b
bound_head b (replicated p) = started 0 b
bound_head b (act a p) = bound_action b a
bound_head b (test t u p q) = started 0 b
bound_head b (lookup t x p q) = started 0 b

-- the node of this number, where the term is a variable in scope
abbrev pub whole_at : List Var → ℕ → Tree → Option ℕ
whole_at scope k (tree.variable v) = if is_known (var_names scope) v.name then Some k else None
whole_at scope k (tree.public n) = None
whole_at scope k (tree.fresh n) = None
whole_at scope k (tree.apply f ts) = None

-- the node of an action that is compared
abbrev pub compared_in : List Var → Action → Option ℕ
compared_in scope (new x) = None
compared_in scope (out t) = None
compared_in scope (send t u) = None
compared_in scope (input t) = whole_at scope 0 t
compared_in scope (receive t u) = whole_at scope (node_count t) u
compared_in scope (event f) = None
compared_in scope (insert t u) = None
compared_in scope (delete t) = None
compared_in scope (lock t n) = None
compared_in scope (unlock t n) = None
compared_in scope (embedded l e r) = None

-- the node of a head that is
abbrev pub compared_at : List Var → Proc → Option ℕ
compared_at scope nil = None
compared_at scope (parallel p q) = None
compared_at scope (replicated p) = None
compared_at scope (act a p) = compared_in scope a
compared_at scope (test t u p q) = None
compared_at scope (lookup t x p q) = None
