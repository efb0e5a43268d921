-- With which name or lock more are in scope than may be.
use Rattle.std.specs.Prelude.{◌≡◌, ◌<◌, ℕ, suc, ◌+◌, ◌-◌, ◌^◌, min, List, [], ◌∷◌, ◌++◌, length, slice_get, Option, Some, None}
use Rattle.sap_terms.specs.declared.limits.TheConstants.{MOST_SCOPE_NAMES}
use Rattle.sap_terms.specs.declared.var.Var.{Var}
use Rattle.sap_process.specs.Action.{Action, new, input, receive, lock, embedded}
use Rattle.sap_process.specs.Places.{child}
use Rattle.sap_process.specs.Proc.{Proc, act, lookup}
use Rattle.sap_process.specs.Sites.{Above, above_of, message_var, scope_below}
use Rattle.sap_nodes.specs.HeadNodes.{Node, binder, variable, tree_nodes, facts_nodes}
use Rattle.sap_nodes.specs.declared.full.Spoken.{Spoken}
use Rattle.sap_nodes.specs.declared.part.Part.TheVariants.{Pattern, Shown, Given}

-- more names and locks are above than may be
abbrev pub IsFull : Above → Type 0
IsFull u = MOST_SCOPE_NAMES < length u.scope + u.locks

-- the nodes of an action of which those bind that are of a name that isn't in scope
abbrev pub action_binding : Action → List Node
action_binding (new x) = binder x ∷ []
action_binding (input t) = tree_nodes Pattern t
action_binding (receive t u) = tree_nodes Pattern u
action_binding (embedded l e r) = facts_nodes Pattern l ++ (facts_nodes Shown e ++ facts_nodes Given r)
action_binding _ = []

-- those of a head
abbrev pub binding_nodes : Proc → List Node
binding_nodes (act a p) = action_binding a
binding_nodes (lookup t x p q) = binder (message_var x) ∷ []
binding_nodes _ = []

-- those in front of them
abbrev pub action_front : Action → List Node
action_front (receive t u) = tree_nodes Given t
action_front _ = []

abbrev pub front_nodes : Proc → List Node
front_nodes (act a p) = action_front a
front_nodes (lookup t x p q) = tree_nodes Given t
front_nodes _ = []

-- the node is a variable of this name
abbrev pub IsNamed : List ℕ → Node → Type 0
IsNamed n (binder v) = v.name ≡ n
IsNamed n (variable v) = v.name ≡ n
IsNamed n _ = ⊥

-- with locks, one variable of those that the head hands down to its child of the digit is the first too many; node k of the head binds it:
-- of those that bind the first of its name
pub record IsLastName (u : Above) (p : Proc) (e k : ℕ) : Type 0 where
  pub var : Var
  pub last : slice_get (scope_below u p e).scope (MOST_SCOPE_NAMES - u.locks) ≡ Some var
  pub index : ℕ
  pub at : k ≡ length (front_nodes p) + index
  pub node : Node
  pub stands : slice_get (binding_nodes p) index ≡ Some node
  pub named : IsNamed var.name node
  pub first : (j : ℕ) (v : Var) → j < index → slice_get (binding_nodes p) j ≡ Some (variable v) → ¬ (v.name ≡ var.name)

-- the head is a lock
abbrev pub IsLock : Proc → Type 0
IsLock (act (lock t n) p) = Unit {0}
IsLock _ = ⊥

-- what is the first too many: node k of the head, or its lock
abbrev pub IsLast : Above → Proc → ℕ → Option ℕ → Type 0
IsLast u p e None = IsLock p
IsLast u p e (Some k) = IsLastName u p e k

-- on the way along this path from the process, below what is above it: the place with so many digits of the path has room, and what it
-- hands down is too much
pub data Fills : Above → Proc → List ℕ → ℕ → Option ℕ → Type 0 where
  here : {u : Above} {p : Proc} {e : ℕ} {path : List ℕ} {o : Option ℕ} → ¬ IsFull u → IsFull (scope_below u p e) → IsLast u p e o → Fills u p (e ∷ path) 0 o
  further : {u : Above} {p q : Proc} {e d : ℕ} {path : List ℕ} {o : Option ℕ} → child p e ≡ Some q → Fills (scope_below u p e) q path d o → Fills u p (e ∷ path) (suc d) o

-- the same from the root, where these are in scope
abbrev pub IsFilling : List Var → Proc → List ℕ → ℕ → Option ℕ → Type 0
IsFilling scope p path d o = Fills (above_of scope 0) p path d o

-- the number of a node, from the greatest u64 on that
abbrev pub told_node : Option ℕ → Option ℕ
told_node None = None
told_node (Some k) = Some (min k (2 ^ 64 - 1))

-- the place and the node are told, or that there are none
abbrev pub IsFillingTold : Above → Proc → List ℕ → Option Spoken → Type 0
IsFillingTold u p path None = (d : ℕ) (o : Option ℕ) → ¬ Fills u p path d o
IsFillingTold u p path (Some f) = (o : Option ℕ) × Fills u p path f.depth o × (f.node ≡ told_node o)
