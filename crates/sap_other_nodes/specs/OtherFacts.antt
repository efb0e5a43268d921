-- Which fact a fact differs from, of its name and kind.
use Rattle.std.specs.Prelude.{◌≡◌, ◌<◌, ◌⊎◌, ℕ, List, slice_get, Some, Contains}
use Rattle.sap_terms.specs.declared.fact.Fact.{Fact}
use Rattle.sap_process.specs.Flaws.{HasOtherArity, HasOtherForm}
use Rattle.sap_process.specs.Places.{IsBefore}
use Rattle.sap_process.specs.Proc.{Proc}
use Rattle.sap_process.specs.Sites.{Site, sites}
use Rattle.sap_nodes.specs.FlawNodes.{shown_of, stored_of}
use Rattle.sap_nodes.specs.HeadNodes.{Node, head_nodes}

-- both nodes are facts of this kind and of one name, and the second differs from the first
pub record AreDiffering (differ : Fact → Fact → Type 0) (kind : Node → List Fact) (told other : Node) : Type 0 where
  pub fact : Fact
  pub is : Contains (kind told) fact
  pub another : Fact
  pub is_another : Contains (kind other) another
  pub name : another.name ≡ fact.name
  pub differs : differ another fact

-- both are shown and have different numbers of arguments; or both are taken or added, and these differ, or one is persistent and the
-- other not
abbrev pub Differ : Node → Node → Type 0
Differ told other = AreDiffering HasOtherArity shown_of told other ⊎ AreDiffering HasOtherForm stored_of told other

-- the path leads to a place whose head has this node k
pub record StandsAt (p : Proc) (path : List ℕ) (k : ℕ) (n : Node) : Type 0 where
  pub site : Site
  pub stands : Contains (sites p) site
  pub path_is : site.path ≡ path
  pub is : slice_get (head_nodes site.body) k ≡ Some n

-- node k of the place of the first path stands before node m of that of the second: at a place before it in preorder, or in front of it
-- in one head
abbrev pub IsEarlier : List ℕ → ℕ → List ℕ → ℕ → Type 0
IsEarlier v k w m = IsBefore v w ⊎ ((v ≡ w) × (k < m))

-- node k of the place of this path differs from the node that is told; no node before it does
pub record IsFirstOther (p : Proc) (told : Node) (path : List ℕ) (k : ℕ) : Type 0 where
  pub node : Node
  pub stands : StandsAt p path k node
  pub differs : Differ told node
  pub first : (v : List ℕ) (m : ℕ) (n : Node) → IsEarlier v m path k → StandsAt p v m n → ¬ Differ told n

-- of node k of the place of the path it is node m of that of the other one
pub record IsOtherFact (p : Proc) (path : List ℕ) (k : ℕ) (other : List ℕ) (m : ℕ) : Type 0 where
  pub told : Node
  pub stands : StandsAt p path k told
  pub first : IsFirstOther p told other m
