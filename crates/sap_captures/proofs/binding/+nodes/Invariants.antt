use Rattle.std.proofs.Common.{◌≡◌, ◌+◌, ◌*◌, drop}
use Rattle.sap_terms.specs.Tree.{node_count, trees_count, trees_of}
use Rattle.sap_terms.specs.View.{tree}
use Rattle.sap_nodes.specs.HeadNodes.{trees_nodes}
use Rattle.sap_captures.specs.code.Bindings.{bound_all}
use Rattle.sap_captures.proofs.binding.+nodes.Given as goal

abbrev pub decreases-bind_term : goal.decreases-bind_term
decreases-bind_term l = 2 * node_count (tree l.t.now)

abbrev pub decreases-bind_terms : goal.decreases-bind_terms
decreases-bind_terms l = 2 * trees_count (trees_of l.ts.now) + 1

abbrev pub invariant-bind_terms-loop-k : goal.invariant-bind_terms-loop-k
invariant-bind_terms-loop-k l =
    bound_all l.part l.binding (trees_nodes l.part (trees_of (drop l.k l.ts))) ≡ bound_all l.part l.initial.binding (trees_nodes l.part (trees_of l.ts))
