-- What stands at the head of a process, whatever goes on behind it, and kinds of processes of which it is known.
use Rattle.std.specs.Prelude.{◌≡◌, ℕ, List, Option, Some, slice_get}
use Rattle.sap_terms.specs.Choice.{Choice}
use Rattle.sap_terms.specs.Tree.{Tree}
use Rattle.sap_terms.specs.declared.var.Var.{Var}
use Rattle.sap_process.specs.Action.{Action}
use Rattle.sap_process.specs.Proc as whole
use Rattle.sap_process.specs.Proc.{Proc}
use Rattle.sap_process.specs.Instance.{process_instance}

-- the forms of a process, over what goes on behind the head
pub data Head (P : Type 0) : Type 0 where
  -- nothing more
  nil : Head P
  -- both, side by side
  parallel : P → P → Head P
  -- as many copies as one likes
  replicated : P → Head P
  -- the action, and then the rest
  act : Action → P → Head P
  -- where the two terms are equal, the first, else the second
  test : Tree → Tree → P → P → Head P
  -- where the store has something at the key, the first, with it bound, else the second
  lookup : Tree → Var → P → P → Head P

-- processes of some kind: which head a running thread has, and what is left of a process whose variables are replaced
pub record Kind (P : Type 0) : Type 1 where
  pub stands : List (Option P) → ℕ → Head P → Type 0
  pub replaced : Choice → P → P

-- the tree that has this head
abbrev pub tree_of : Head Proc → Proc
tree_of nil = whole.nil
tree_of (parallel p q) = whole.parallel p q
tree_of (replicated p) = whole.replicated p
tree_of (act a p) = whole.act a p
tree_of (test t u p q) = whole.test t u p q
tree_of (lookup t x p q) = whole.lookup t x p q

-- processes as trees
abbrev pub trees : Kind Proc
trees = record { stands = λ os t h. slice_get os t ≡ Some (Some (tree_of h)); replaced = process_instance }
