-- The nodes of the head of a process, in the order in which they are written.
use Rattle.std.specs.Prelude.{ℕ, List, [], ◌∷◌, ◌++◌, length}
use Rattle.std.specs.List.{flat_map}
use Rattle.sap_terms.specs.Tree as tree
use Rattle.sap_terms.specs.Tree.{Tree, Trees, none, more, trees_of, list_of}
use Rattle.sap_terms.specs.declared.fact.Fact.{Fact}
use Rattle.sap_terms.specs.declared.var.Var.{Var}
use Rattle.sap_process.specs.Action.{Action, new, out, send, input, receive, event, insert, delete, lock, unlock, embedded}
use Rattle.sap_process.specs.Proc.{Proc, nil, parallel, replicated, act, test, lookup}
use Rattle.sap_process.specs.Sites.{message_var}
use Rattle.sap_nodes.specs.declared.part.Part.{Part}
use Rattle.sap_nodes.specs.declared.part.Part.TheVariants.{Pattern, Shown, Given}

pub data Node : Type 0 where
  -- what `new` or `lookup` binds, the last as a plain identifier
  binder : Var → Node
  -- a variable in a term
  variable : Var → Node
  -- a public name, or a fresh one by its number
  public : List ℕ → Node
  fresh : ℕ → Node
  -- a symbol in a term of this part, on so many terms
  symbol : Part → List ℕ → ℕ → Node
  -- a fact of this part
  fact : Part → Fact → Node

abbrev mutual
  -- those of a term: a symbol stands in front of the terms that it is applied to
  pub tree_nodes : Part → Tree → List Node
  tree_nodes a (tree.variable v) = variable v ∷ []
  tree_nodes a (tree.public n) = public n ∷ []
  tree_nodes a (tree.fresh k) = fresh k ∷ []
  tree_nodes a (tree.apply f ts) = symbol a f (length (list_of ts)) ∷ trees_nodes a ts

  -- those of these terms, one after another
  pub trees_nodes : Part → Trees → List Node
  trees_nodes a none = []
  trees_nodes a (more t ts) = tree_nodes a t ++ trees_nodes a ts

-- a fact stands in front of its arguments
abbrev pub fact_nodes : Part → Fact → List Node
fact_nodes a f = fact a f ∷ trees_nodes a (trees_of f.args)

-- those of these facts, one after another
abbrev pub facts_nodes : Part → List Fact → List Node
facts_nodes a fs = flat_map (fact_nodes a) fs

-- those of an action
abbrev pub action_nodes : Action → List Node
action_nodes (new x) = binder x ∷ []
action_nodes (out t) = tree_nodes Given t
action_nodes (send t u) = tree_nodes Given t ++ tree_nodes Given u
action_nodes (input t) = tree_nodes Pattern t
action_nodes (receive t u) = tree_nodes Given t ++ tree_nodes Pattern u
action_nodes (event f) = fact_nodes Shown f
action_nodes (insert t u) = tree_nodes Given t ++ tree_nodes Given u
action_nodes (delete t) = tree_nodes Given t
action_nodes (lock t n) = tree_nodes Given t
action_nodes (unlock t n) = tree_nodes Given t
action_nodes (embedded l e r) = facts_nodes Pattern l ++ (facts_nodes Shown e ++ facts_nodes Given r)

-- those of the head of a process
abbrev pub head_nodes : Proc → List Node
head_nodes nil = []
head_nodes (parallel p q) = []
head_nodes (replicated p) = []
head_nodes (act a p) = action_nodes a
head_nodes (test t u p q) = tree_nodes Given t ++ tree_nodes Given u
head_nodes (lookup t x p q) = tree_nodes Given t ++ binder (message_var x) ∷ []
