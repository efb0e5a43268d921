use Rattle.std.proofs.Common.{◌≡◌, ◌+◌, ◌*◌, map, take}
use Rattle.sap_terms.specs.Choice.{instance}
use Rattle.sap_terms.specs.Tree.{node_count, trees_count, trees_of}
use Rattle.sap_terms.specs.View.{tree}
use Rattle.sap_formula.specs.code.Scoped.{binders}
use Rattle.sap_formula.specs.Sorted.{by_binder}
use Rattle.sap_formula.proofs.sorting.+sorted_term.Given as goal

abbrev pub decreases-sorted_term : goal.decreases-sorted_term
decreases-sorted_term l = 2 * node_count (tree l.t.now)

abbrev pub decreases-sorted_terms : goal.decreases-sorted_terms
decreases-sorted_terms l = 2 * trees_count (trees_of l.ts.now) + 1

abbrev pub invariant-sorted_terms-loop-k : goal.invariant-sorted_terms-loop-k
invariant-sorted_terms-loop-k l = l.out ≡ map (instance (by_binder (binders l.scope))) (take l.k l.ts)
