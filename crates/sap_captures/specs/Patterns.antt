-- Which nodes of a head are told: those by which a pattern binds, and a whole pattern that is a variable in scope.
use Rattle.std.specs.Prelude.{◌≡◌, ◌<◌, ◌+◌, ℕ, true, false, List, [], length, slice_get, Option, Some, None}
use Rattle.sap_terms.specs.Tree as tree
use Rattle.sap_terms.specs.Tree.{Tree}
use Rattle.sap_terms.specs.Variables.{is_known}
use Rattle.sap_terms.specs.declared.var.Var.{Var}
use Rattle.sap_process.specs.Action.{Action, input, receive, embedded}
use Rattle.sap_process.specs.Proc.{Proc, act}
use Rattle.sap_process.specs.Sites.{Site, var_names}
use Rattle.sap_nodes.specs.FullScope.{front_nodes}
use Rattle.sap_nodes.specs.HeadNodes.{Node, variable, facts_nodes, tree_nodes}
use Rattle.sap_nodes.specs.declared.part.Part.TheVariants.{Pattern}
use Rattle.sap_captures.specs.declared.kind.Kind.{Kind}
use Rattle.sap_captures.specs.declared.kind.Kind.TheVariants.{Captured, Compared}

-- the nodes of the pattern of an action: of an input, or of the facts that an embedded rule takes
abbrev pub action_pattern : Action → List Node
action_pattern (input t) = tree_nodes Pattern t
action_pattern (receive t u) = tree_nodes Pattern u
action_pattern (embedded l e r) = facts_nodes Pattern l
action_pattern _ = []

-- those of a head
abbrev pub pattern_nodes : Proc → List Node
pattern_nodes (act a p) = action_pattern a
pattern_nodes _ = []

-- the pattern of an input, on a channel or from the adversary
abbrev pub action_input : Action → Option Tree
action_input (input t) = Some t
action_input (receive t u) = Some u
action_input _ = None

abbrev pub input_pattern : Proc → Option Tree
input_pattern (act a p) = action_input a
input_pattern _ = None

-- node k of the head binds: it is a variable of the pattern whose name isn't in scope, the first of its name
pub record IsBindingNode (s : Site) (k : ℕ) : Type 0 where
  pub index : ℕ
  pub at : k ≡ length (front_nodes s.body) + index
  pub var : Var
  pub stands : slice_get (pattern_nodes s.body) index ≡ Some (variable var)
  pub new : is_known (var_names s.above.scope) var.name ≡ false
  pub first : (j : ℕ) (v : Var) → j < index → slice_get (pattern_nodes s.body) j ≡ Some (variable v)
      → ¬ (v.name ≡ var.name)

-- node k of the head is the whole pattern of an input, and a variable whose name is in scope
pub record IsComparedNode (s : Site) (k : ℕ) : Type 0 where
  pub at : k ≡ length (front_nodes s.body)
  pub var : Var
  pub whole : input_pattern s.body ≡ Some (tree.variable var)
  pub known : is_known (var_names s.above.scope) var.name ≡ true

-- node k of the head is one of the kind
abbrev pub IsNodeOfKind : Kind → Site → ℕ → Type 0
IsNodeOfKind Captured s k = IsBindingNode s k
IsNodeOfKind Compared s k = IsComparedNode s k
