-- What a table's parts have to do with each other.
use Rattle.std.specs.Prelude.{◌≡◌, ◌<◌, ◌-◌, ◌^◌, ℕ, List, length, slice_get, slice_index, map, Some, min}
use Rattle.sap_terms.specs.Equations.{equations}
use Rattle.sap_terms.specs.Ground.{IsGround}
use Rattle.sap_terms.specs.Message.{IsOver}
use Rattle.sap_terms.specs.Normal.{IsNormalForm}
use Rattle.sap_terms.specs.Signature.{Sig}
use Rattle.sap_terms.specs.Tree.{Tree, node_count}
use Rattle.sap_terms.specs.View.{tree}
use Rattle.sap_share.specs.Shared.{tree_at, node_tree, StandsBelow, HaveOneNumber}
pub use Rattle.sap_share.specs.Shared.{IsNew}
use Rattle.sap_share.specs.declared.node.Node.{Node}
use Rattle.sap_share.specs.declared.row.Row.{Row}

-- the trees of the rows' terms
abbrev pub trees_in : List Row → List Tree
trees_in rs = map (λ (r : Row). tree r.term) rs

-- the numbers of their normal forms
abbrev pub forms_in : List Row → List ℕ
forms_in rs = map (λ (r : Row). r.form) rs

-- their sizes
abbrev pub sizes_in : List Row → List ℕ
sizes_in rs = map (λ (r : Row). r.size) rs

-- the row is that of the node, whose normal form has this number
pub record IsRowOf (ts : List Tree) (n : Node) (number : ℕ) (r : Row) : Type 0 where
  pub term : tree r.term ≡ node_tree ts n
  pub form : r.form ≡ number
  pub size : r.size ≡ min (node_count (node_tree ts n)) (2 ^ 64 - 1)

-- each node stands on earlier ones and is unlike them, and its normal form's number and its size are remembered
pub record IsTable (g : Sig) (nodes : List Node) (ts : List Tree) (forms sizes : List ℕ) : Type 0 where
  pub trees_count : length ts ≡ length nodes
  pub forms_count : length forms ≡ length nodes
  pub sizes_count : length sizes ≡ length nodes
  pub below : (k : ℕ) (n : Node) → slice_get nodes k ≡ Some n → StandsBelow k n
  pub trees : (k : ℕ) (n : Node) → slice_get nodes k ≡ Some n → tree_at ts k ≡ node_tree ts n
  pub ground : (k : ℕ) → k < length ts → IsGround (tree_at ts k)
  pub over : (k : ℕ) → k < length ts → IsOver g (tree_at ts k)
  pub once : HaveOneNumber ts (length ts)
  pub form_below : (k : ℕ) → k < length ts → slice_index forms k < length ts
  pub form : (k : ℕ) → k < length ts → IsNormalForm (equations g) (tree_at ts k) (tree_at ts (slice_index forms k))
  pub size : (k : ℕ) → k < length ts → slice_index sizes k ≡ min (node_count (tree_at ts k)) (2 ^ 64 - 1)
