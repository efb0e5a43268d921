-- What is known of a new node's normal form.
use Rattle.std.specs.Prelude.{◌≡◌, ◌<◌, length}
use Rattle.sap_terms.specs.Equations.{equations}
use Rattle.sap_terms.specs.Normal.{IsNormalForm}
use Rattle.sap_share.specs.Shared.{Shared, tree_at, node_tree, StandsBelow}
use Rattle.sap_share.specs.declared.node.Node.{Node}
use Rattle.sap_share.specs.declared.intern.Reduct.{Reduct}
use Rattle.sap_share.specs.declared.intern.Reduct.TheVariants.{Itself, Old, Like}

-- the node is its own normal form, or has that of a number, or that of another node
abbrev pub IsFormOf : Shared → Node → Reduct → Type 0
IsFormOf s n Itself = IsNormalForm (equations s.sig) (node_tree s.trees n) (node_tree s.trees n)
IsFormOf s n (Old k) = (k < length s.trees) × IsNormalForm (equations s.sig) (node_tree s.trees n) (tree_at s.trees k)
IsFormOf s n (Like m) =
    StandsBelow (length s.trees) m × IsNormalForm (equations s.sig) (node_tree s.trees n) (node_tree s.trees m) × ¬ (node_tree s.trees m ≡ node_tree s.trees n)
