-- At which words the nodes of a head stand.
use Rattle.std.specs.Prelude.{◌≡◌, List, ◌∷◌, length}
use Rattle.sap_terms.specs.declared.fact.Fact.{Fact}
use Rattle.sap_terms.specs.declared.var.Var.{Var}
use Rattle.sap_terms.specs.Signature.{Sig}
use Rattle.sap_terms.specs.Tree as tree
use Rattle.sap_terms.specs.Tree.{Tree, list_of}
use Rattle.sap_grammar.specs.Words.{Word, name}
use Rattle.sap_node_words.specs.NodeWords.{StandsAt}
use Rattle.sap_nodes.specs.HeadNodes.{Node, binder, variable, public, fresh, symbol, fact}
use Rattle.sap_nodes.specs.declared.part.Part.{Part}

-- the node that this term begins with, in terms of this part
abbrev pub node_of : Part → Tree → Node
node_of x (tree.variable v) = variable v
node_of x (tree.public n) = public n
node_of x (tree.fresh k) = fresh k
node_of x (tree.apply f ts) = symbol x f (length (list_of ts))

-- which words a node of a head has from its own on: what is bound, and a fact, its name; what a term begins with, those at which the term
-- stands
pub data NodeStands (g : Sig) : Node → List Word → Type 0 where
  stands_binder : {x : Var} {a : List Word} → NodeStands g (binder x) (name x.name ∷ a)
  stands_fact : {x : Part} {f : Fact} {a : List Word} → NodeStands g (fact x f) (name f.name ∷ a)
  stands_term : {t : Tree} {n : Node} {a : List Word} (x : Part) → n ≡ node_of x t → StandsAt g t a
      → NodeStands g n a
