use Rattle.std.proofs.Common.{◌≡◌, ◌≤◌, ◌+◌, ◌-◌, ◌*◌, ◌^◌, min, drop}
use Rattle.sap_terms.specs.Tree.{node_count, trees_count, trees_of}
use Rattle.sap_terms.specs.View.{tree}
use Rattle.sap_uses.specs.Sizes.{size_in}
use Rattle.sap_uses.specs.code.Walks.{weights}
use Rattle.sap_uses.proofs.sizes.+size.Given as goal

abbrev pub decreases-size : goal.decreases-size
decreases-size l = 2 * node_count (tree l.t.now)

abbrev pub decreases-sum : goal.decreases-sum
decreases-sum l = 2 * trees_count (trees_of l.ts.now) + 1

abbrev pub invariant-sum-loop-k : goal.invariant-sum-loop-k
invariant-sum-loop-k l =
    (l.total ≤ 2 ^ 64 - 1)
    × (min (l.total + weights (size_in l.sizes) (trees_of (drop l.k l.ts))) (2 ^ 64 - 1)
    ≡ min (weights (size_in l.sizes) (trees_of l.ts)) (2 ^ 64 - 1))
