use Rattle.std.proofs.Common.{◌≡◌, ◌+◌, ◌*◌, ◌++◌, length, take, drop}
use Rattle.sap_terms.specs.Tree.{node_count, trees_count, trees_of}
use Rattle.sap_terms.specs.Variables.{trees_vars}
use Rattle.sap_terms.specs.View.{tree}
use Rattle.sap_terms.proofs.occurrences.+push.Given as goal

abbrev pub decreases-push_vars : goal.decreases-push_vars
decreases-push_vars l = 2 * node_count (tree l.t.now)

abbrev pub decreases-push_all_vars : goal.decreases-push_all_vars
decreases-push_all_vars l = 2 * trees_count (trees_of l.ts.now) + 1

abbrev pub invariant-push_all_vars-loop-k : goal.invariant-push_all_vars-loop-k
invariant-push_all_vars-loop-k l =
    (l.out ++ trees_vars (trees_of (drop l.k l.ts)) ≡ l.initial.out ++ trees_vars (trees_of l.ts))
    × (take (length l.initial.out) l.out ≡ l.initial.out)
