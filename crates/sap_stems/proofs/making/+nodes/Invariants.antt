use Rattle.std.proofs.Common.{◌≡◌, ◌+◌, ◌*◌, drop}
use Rattle.sap_terms.specs.Tree.{node_count, trees_count, trees_of}
use Rattle.sap_terms.specs.View.{tree}
use Rattle.sap_nodes.specs.HeadNodes.{trees_nodes}
use Rattle.sap_stems.specs.code.Makings.{made_all}
use Rattle.sap_stems.proofs.making.+nodes.Given as goal

abbrev pub decreases-in_term : goal.decreases-in_term
decreases-in_term l = 2 * node_count (tree l.t.now)

abbrev pub decreases-in_terms : goal.decreases-in_terms
decreases-in_terms l = 2 * trees_count (trees_of l.ts.now) + 1

abbrev pub invariant-in_terms-loop-k : goal.invariant-in_terms-loop-k
invariant-in_terms-loop-k l =
    made_all l.puts l.making (trees_nodes l.part (trees_of (drop l.k l.ts))) ≡ made_all l.puts l.initial.making (trees_nodes l.part (trees_of l.ts))
