-- The left sides of equations, over a symbol and the trees that it stands on, and what is found of them.
use Rattle.std.specs.Prelude.{◌≡◌, ◌<◌, ℕ, List, [], ◌∷◌, length}
use Rattle.sap_terms.specs.Equations.{equations, IsInstance, app0, app1, app2, senc_name, sdec_name, aenc_name, adec_name, pk_name, true_name}
use Rattle.sap_terms.specs.Normal.{IsNoLeftSide}
use Rattle.sap_terms.specs.Tree.{Tree, apply, trees_of}
use Rattle.sap_share.specs.Shared.{Shared, tree_at, trees_at}
use Rattle.sap_share.specs.declared.side.Side.{Side}
use Rattle.sap_share.specs.declared.side.Side.TheVariants.{Nothing, Part, Truth}

-- the symbol is the outer one, on one tree: the inner one on x and y
pub record IsOnOne (outer inner f : List ℕ) (ts : List Tree) (x y : Tree) : Type 0 where
  pub symbol : f ≡ outer
  pub args : ts ≡ app2 inner x y ∷ []

-- the symbol is `sdec`, on `senc` of the message and the key, and the key
pub record IsOpened (f : List ℕ) (ts : List Tree) (m k : Tree) : Type 0 where
  pub symbol : f ≡ sdec_name
  pub args : ts ≡ app2 senc_name m k ∷ k ∷ []

-- the symbol is `adec`, on `aenc` of the message and the public key, and the key
pub record IsOpenedByKey (f : List ℕ) (ts : List Tree) (m k : Tree) : Type 0 where
  pub symbol : f ≡ adec_name
  pub args : ts ≡ app2 aenc_name m (app1 pk_name k) ∷ k ∷ []

-- the symbol is the outer one, on three trees: the inner one on the message and the key, the message, and the public key
pub record IsChecked (outer inner f : List ℕ) (ts : List Tree) (m k : Tree) : Type 0 where
  pub symbol : f ≡ outer
  pub args : ts ≡ app2 inner m k ∷ m ∷ app1 pk_name k ∷ []

-- no equation has the symbol on these for its left side, or one has, whose right side is the tree of a number or `true`
abbrev pub IsSideOf : Shared → List ℕ → List ℕ → Side → Type 0
IsSideOf s f ks Nothing = IsNoLeftSide (equations s.sig) (apply f (trees_of (trees_at s.trees ks)))
IsSideOf s f ks (Part k) = (k < length s.trees) × IsInstance (equations s.sig) (apply f (trees_of (trees_at s.trees ks))) (tree_at s.trees k)
IsSideOf s f ks Truth = IsInstance (equations s.sig) (apply f (trees_of (trees_at s.trees ks))) (app0 true_name)
