-- Pairs by the numbers of their parts.
use Rattle.std.specs.Prelude.{◌≡◌, ◌<◌, ℕ, List, length}
use Rattle.sap_terms.specs.Equations.{app2, pair_name}
use Rattle.sap_terms.specs.Tree.{Tree}
use Rattle.sap_share.specs.Shared.{tree_at}

-- the term is the pair of the terms of these numbers
pub record IsPairOf (ts : List Tree) (x : Tree) (a b : ℕ) : Type 0 where
  pub is : x ≡ app2 pair_name (tree_at ts a) (tree_at ts b)
  pub first_below : a < length ts
  pub second_below : b < length ts
