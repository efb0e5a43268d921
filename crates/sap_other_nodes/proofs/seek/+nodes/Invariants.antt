use Rattle.std.proofs.Common.{◌≡◌, ◌+◌, ◌*◌, drop}
use Rattle.sap_terms.specs.Tree.{node_count, trees_count, trees_of}
use Rattle.sap_terms.specs.View.{tree}
use Rattle.sap_nodes.specs.HeadNodes.{trees_nodes}
use Rattle.sap_other_nodes.specs.code.Seeks.{after}
use Rattle.sap_other_nodes.proofs.seek.+nodes.Given as goal

abbrev pub decreases-in_term : goal.decreases-in_term
decreases-in_term l = 2 * node_count (tree l.t.now)

abbrev pub decreases-in_terms : goal.decreases-in_terms
decreases-in_terms l = 2 * trees_count (trees_of l.ts.now) + 1

abbrev pub invariant-in_terms-loop-k : goal.invariant-in_terms-loop-k
invariant-in_terms-loop-k l =
    after l.wanted l.seek (trees_nodes l.part (trees_of (drop l.k l.ts))) ≡ after l.wanted l.initial.seek (trees_nodes l.part (trees_of l.ts))
