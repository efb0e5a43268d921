-- Terms as plain trees.
use Rattle.std.specs.Prelude.{◌≡◌, ℕ, ◌+◌, max, List, [], ◌∷◌, refl}
use Rattle.std.proofs.Common.{ap}
use Rattle.sap_terms.specs.declared.var.Var.{Var}

mutual
  -- a leaf is a variable, a public name, or a fresh name by its number; other trees have a symbol over trees
  pub data Tree : Type 0 where
    variable : Var → Tree
    public : List ℕ → Tree
    fresh : ℕ → Tree
    apply : List ℕ → Trees → Tree

  -- trees side by side
  pub data Trees : Type 0 where
    none : Trees
    more : Tree → Trees → Trees

-- a list's items as trees side by side
abbrev pub trees_of : List Tree → Trees
trees_of [] = none
trees_of (t ∷ ts) = more t (trees_of ts)

-- and back
abbrev pub list_of : Trees → List Tree
list_of none = []
list_of (more t ts) = t ∷ list_of ts

abbrev mutual
  -- how many nodes a tree has
  pub node_count : Tree → ℕ
  node_count (variable v) = 1
  node_count (public n) = 1
  node_count (fresh k) = 1
  node_count (apply f ts) = trees_count ts + 1

  -- how many they have together
  pub trees_count : Trees → ℕ
  trees_count none = 0
  trees_count (more t ts) = node_count t + trees_count ts

abbrev mutual
  -- how deep a tree is: 1 for a leaf
  pub level_count : Tree → ℕ
  level_count (variable v) = 1
  level_count (public n) = 1
  level_count (fresh k) = 1
  level_count (apply f ts) = trees_levels ts + 1

  -- how deep the deepest of them is, 0 where there is none
  pub trees_levels : Trees → ℕ
  trees_levels none = 0
  trees_levels (more t ts) = max (level_count t) (trees_levels ts)

-- each undoes the other
pub list_of-trees_of : (ts : List Tree) → list_of (trees_of ts) ≡ ts
list_of-trees_of [] = refl
list_of-trees_of (t ∷ ts) = ap (λ us. t ∷ us) (list_of-trees_of ts)

pub trees_of-list_of : (ts : Trees) → trees_of (list_of ts) ≡ ts
trees_of-list_of none = refl
trees_of-list_of (more t ts) = ap (more t) (trees_of-list_of ts)
