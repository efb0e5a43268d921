-- Trees that are shared: each is a node over the numbers of other trees.
use Rattle.std.specs.Prelude.{◌≡◌, ◌<◌, ◌+◌, ◌⊎◌, ℕ, List, [], ◌∷◌, ◌++◌, map, length, slice_index_or, All, Some}
use Rattle.sap_terms.specs.Signature.{Sig, arity_of}
use Rattle.sap_terms.specs.Tree.{Tree, public, fresh, apply, trees_of}
use Rattle.sap_share.specs.declared.node.Node.{Node}
use Rattle.sap_share.specs.declared.node.Node.TheVariants.{Public, Fresh, App}

-- a signature, and trees by their numbers
pub record Shared : Type 0 where
  pub sig : Sig
  pub trees : List Tree

-- the tree of a number
abbrev pub tree_at : List Tree → ℕ → Tree
tree_at ts k = slice_index_or ts k (fresh 0)

-- the trees of these numbers
abbrev pub trees_at : List Tree → List ℕ → List Tree
trees_at ts ks = map (tree_at ts) ks

-- the tree of a node
abbrev pub node_tree : List Tree → Node → Tree
node_tree ts (Public n) = public n
node_tree ts (Fresh k) = fresh k
node_tree ts (App f ks) = apply f (trees_of (trees_at ts ks))

-- these numbers are below the count
abbrev pub AreBelow : ℕ → List ℕ → Type 0
AreBelow count ks = All (λ k. k < count) ks

-- the numbers that the node stands on are below the count
abbrev pub StandsBelow : ℕ → Node → Type 0
StandsBelow count (Public n) = Unit {0}
StandsBelow count (Fresh k) = Unit {0}
StandsBelow count (App f ks) = AreBelow count ks

-- the node's symbol is held, and it stands on as many numbers as the symbol's arity says
abbrev pub IsHeld : Sig → Node → Type 0
IsHeld g (Public n) = Unit {0}
IsHeld g (Fresh k) = Unit {0}
IsHeld g (App f ks) = arity_of g f ≡ Some (length ks)

-- the node's tree has no number
abbrev pub IsNew : List Tree → Node → Type 0
IsNew ts n = (k : ℕ) → k < length ts → tree_at ts k ≡ node_tree ts n → ⊥

-- numbers keep their meaning
pub record Keeps (old new : Shared) : Type 0 where
  pub sig : new.sig ≡ old.sig
  pub added : List Tree
  pub trees : new.trees ≡ old.trees ++ added

-- no tree has two numbers
abbrev pub HaveOneNumber : List Tree → ℕ → Type 0
HaveOneNumber ts count = (i j : ℕ) → i < count → j < count → tree_at ts i ≡ tree_at ts j → i ≡ j

-- a number of the tree, earlier numbers keeping their meaning
pub record Gives (old new : Shared) (k : ℕ) (t : Tree) : Type 0 where
  pub keeps : Keeps old new
  pub below : k < length new.trees
  pub tree : tree_at new.trees k ≡ t

-- no number came but this one, if it is new
abbrev pub ComesAlone : Shared → Shared → ℕ → Type 0
ComesAlone old new k = (new.trees ≡ old.trees) ⊎ (new.trees ≡ old.trees ++ tree_at new.trees k ∷ [])

-- how a number came: it was given before, and none came; or it is the next one, and came alone; or it is the one behind the next,
-- which came with it
pub data Came (old new : Shared) (k : ℕ) : Type 0 where
  given : k < length old.trees → new.trees ≡ old.trees → Came old new k
  alone : k ≡ length old.trees → length new.trees ≡ k + 1 → Came old new k
  second : k ≡ length old.trees + 1 → length new.trees ≡ k + 1 → Came old new k
