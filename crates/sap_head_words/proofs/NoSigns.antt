-- No fact, variable or binder stands at a sign.
use Rattle.std.proofs.Common.{List, [], ◌∷◌, sym, subst}
use Rattle.sap_terms.specs.Signature.{Sig}
use Rattle.sap_terms.specs.Tree as tree
use Rattle.sap_terms.specs.Tree.{Tree}
use Rattle.sap_grammar.specs.Words.{Word, mark, name, number, quoted}
use Rattle.sap_node_words.specs.NodeWords.{StandsAt, at_name, at_public, at_symbol, at_tuple, at_rest}
use Rattle.sap_nodes.specs.HeadNodes.{Node, binder, variable, public, fresh, symbol, fact}
use Rattle.sap_nodes.specs.declared.part.Part.{Part}
use Rattle.sap_head_words.specs.NodeStands.{NodeStands, node_of, stands_binder, stands_fact, stands_term}

abbrev pub NoMark : List Word → Type 0
NoMark [] = Unit {0}
NoMark (mark m ∷ a) = ⊥
NoMark (name x ∷ a) = Unit {0}
NoMark (number n ∷ a) = Unit {0}
NoMark (quoted s ∷ a) = Unit {0}

abbrev pub TermFits : Tree → List Word → Type 0
TermFits (tree.variable v) a = NoMark a
TermFits (tree.public n) a = Unit {0}
TermFits (tree.fresh k) a = Unit {0}
TermFits (tree.apply f ts) a = Unit {0}

abbrev pub NodeFits : Node → List Word → Type 0
NodeFits (binder x) a = NoMark a
NodeFits (variable v) a = NoMark a
NodeFits (public n) a = Unit {0}
NodeFits (fresh k) a = Unit {0}
NodeFits (symbol x f n) a = Unit {0}
NodeFits (fact x f) a = NoMark a

term_fits : {g : Sig} {t : Tree} {a : List Word} → StandsAt g t a → TermFits t a
term_fits at_name = tt
term_fits at_public = tt
term_fits (at_symbol r) = tt
term_fits (at_tuple r) = tt
term_fits (at_rest r s) = tt

so_node : (x : Part) (t : Tree) (a : List Word) → TermFits t a → NodeFits (node_of x t) a
so_node x (tree.variable v) a h = h
so_node x (tree.public n) a h = tt
so_node x (tree.fresh k) a h = tt
so_node x (tree.apply f ts) a h = tt

pub node_fits : {g : Sig} {n : Node} {a : List Word} → NodeStands g n a → NodeFits n a
node_fits stands_binder = tt
node_fits stands_fact = tt
node_fits (stands_term {t = t} {a = a} x e h) = subst (λ z. NodeFits z a) (sym e) (so_node x t a (term_fits h))
