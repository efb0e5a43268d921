use Rattle.std.proofs.Common.{◌≡◌, ◌+◌, ◌*◌, ◌++◌, drop}
use Rattle.sap_terms.specs.Tree.{node_count, trees_count, trees_of}
use Rattle.sap_terms.specs.View.{tree}
use Rattle.sap_rewrite.specs.Around.{all_outer_vars}
use Rattle.sap_rule.proofs.variables.+push_outer.Given as goal

abbrev pub decreases-push_outer_vars : goal.decreases-push_outer_vars
decreases-push_outer_vars l = 2 * node_count (tree l.t.now)

abbrev pub decreases-push_all_outer_vars : goal.decreases-push_all_outer_vars
decreases-push_all_outer_vars l = 2 * trees_count (trees_of l.ts.now) + 1

abbrev pub invariant-push_all_outer_vars-loop-k : goal.invariant-push_all_outer_vars-loop-k
invariant-push_all_outer_vars-loop-k l =
    l.out ++ all_outer_vars l.sig (trees_of (drop l.k l.ts)) ≡ l.initial.out ++ all_outer_vars l.sig (trees_of l.ts)
