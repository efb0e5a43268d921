-- The nodes of the trees of numbers, one number more.
use Rattle.std.proofs.Common.{◌≡◌, ◌<◌, ◌+◌, ℕ, zero, suc, List, [], ◌∷◌, length, take, add-one, arith, get_or}
use Rattle.sap_terms.specs.Tree.{Tree, trees_of, trees_count, node_count}
use Rattle.sap_share.specs.Shared.{tree_at, trees_at}

pub count_take : (ts : List Tree) (ks : List ℕ) (i d : ℕ) → i < length ks → trees_count (trees_of (trees_at ts (take (i + 1) ks))) ≡ trees_count (trees_of (trees_at ts (take i ks))) + node_count (tree_at ts (get_or ks i d))
count_take ts ks i d h = rw add-one (at ks i h) where
  at : (ks : List ℕ) (i : ℕ) → i < length ks → trees_count (trees_of (trees_at ts (take (suc i) ks))) ≡ trees_count (trees_of (trees_at ts (take i ks))) + node_count (tree_at ts (get_or ks i d))
  at [] i h = absurd (omega arith)
  at (k ∷ ks) zero h = omega arith
  at (k ∷ ks) (suc i) h = let r = at ks i (omega (arith, h)) in omega (arith, r)

pub ruleset size_laws = (count_take)
