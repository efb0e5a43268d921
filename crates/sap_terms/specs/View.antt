-- The tree of a term, one level: the terms below it are seen as trees already.
use Rattle.std.specs.Prelude.{◌≡◌, refl}
use Rattle.std.proofs.Common.{ap}
use Rattle.sap_terms.specs.Tree.{Tree, variable, public, fresh, apply, trees_of, list_of, list_of-trees_of, trees_of-list_of}
use Rattle.sap_terms.specs.declared.term.Term.{Term}
use Rattle.sap_terms.specs.declared.term.Term.TheVariants.{Var, Public, Fresh, App}

-- the tree of the term
abbrev pub tree : Term → Tree
tree (Var v) = variable v
tree (Public n) = public n
tree (Fresh k) = fresh k
tree (App f ts) = apply f (trees_of ts)

-- the term of a tree, which undoes `tree`
abbrev pub term : Tree → Term
term (variable v) = Var v
term (public n) = Public n
term (fresh k) = Fresh k
term (apply f ts) = App f (list_of ts)

pub term-tree : (t : Term) → term (tree t) ≡ t
term-tree (Var v) = refl
term-tree (Public n) = refl
term-tree (Fresh k) = refl
term-tree (App f ts) = ap (App f) (list_of-trees_of ts)

pub tree-term : (t : Tree) → tree (term t) ≡ t
tree-term (variable v) = refl
tree-term (public n) = refl
tree-term (fresh k) = refl
tree-term (apply f ts) = ap (apply f) (trees_of-list_of ts)
