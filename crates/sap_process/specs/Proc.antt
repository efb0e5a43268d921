-- Processes as plain trees.
use Rattle.std.specs.Prelude.{ℕ, ◌+◌, max}
use Rattle.sap_terms.specs.Tree.{Tree}
use Rattle.sap_terms.specs.View.{tree}
use Rattle.sap_terms.specs.declared.var.Var.{Var}
use Rattle.sap_process.specs.Action.{Action, new, out, send, input, receive, event, insert, delete, lock, unlock, embedded}
use Rattle.sap_process.specs.declared.process.Process.{Process}
use Rattle.sap_process.specs.declared.process.Process.TheVariants.{Nil, Par', Rep', New', Out', Send', In', Recv', If', Event', Insert', Delete', Lookup', Lock', Unlock', Embedded'}

pub data Proc : Type 0 where
  -- nothing more
  nil : Proc
  -- both, side by side
  parallel : Proc → Proc → Proc
  -- as many copies as one likes
  replicated : Proc → Proc
  -- the action, and then the rest
  act : Action → Proc → Proc
  -- where the two terms are equal, the first, else the second
  test : Tree → Tree → Proc → Proc → Proc
  -- where the store has something at the key, the first, with it bound, else the second
  lookup : Tree → Var → Proc → Proc → Proc

-- the tree of a process, without the addresses of its parts
abbrev pub proc : Process → Proc
proc Nil = nil
proc (Par' a p b q) = parallel (proc p) (proc q)
proc (Rep' a p) = replicated (proc p)
proc (New' x a p) = act (new x) (proc p)
proc (Out' t a p) = act (out (tree t)) (proc p)
proc (Send' t u a p) = act (send (tree t) (tree u)) (proc p)
proc (In' t a p) = act (input (tree t)) (proc p)
proc (Recv' t u a p) = act (receive (tree t) (tree u)) (proc p)
proc (If' t u a p b q) = test (tree t) (tree u) (proc p) (proc q)
proc (Event' f a p) = act (event f) (proc p)
proc (Insert' t u a p) = act (insert (tree t) (tree u)) (proc p)
proc (Delete' t a p) = act (delete (tree t)) (proc p)
proc (Lookup' t x a p b q) = lookup (tree t) x (proc p) (proc q)
proc (Lock' t n a p) = act (lock (tree t) n) (proc p)
proc (Unlock' t n a p) = act (unlock (tree t) n) (proc p)
proc (Embedded' l e r a p) = act (embedded l e r) (proc p)

-- how many places it has
abbrev pub node_count : Proc → ℕ
node_count nil = 1
node_count (parallel p q) = node_count p + node_count q + 1
node_count (replicated p) = node_count p + 1
node_count (act x p) = node_count p + 1
node_count (test t u p q) = node_count p + node_count q + 1
node_count (lookup t x p q) = node_count p + node_count q + 1

-- how deep its tree is
abbrev pub level_count : Proc → ℕ
level_count nil = 1
level_count (parallel p q) = max (level_count p) (level_count q) + 1
level_count (replicated p) = level_count p + 1
level_count (act x p) = level_count p + 1
level_count (test t u p q) = max (level_count p) (level_count q) + 1
level_count (lookup t x p q) = max (level_count p) (level_count q) + 1
