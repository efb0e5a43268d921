use Rattle.std.proofs.Common.{◌≡◌, ◌+◌, ◌*◌, drop}
use Rattle.std.specs.List.{list_any}
use Rattle.sap_terms.specs.Tree.{node_count, trees_count, trees_of}
use Rattle.sap_terms.specs.Variables.{trees_vars}
use Rattle.sap_terms.specs.View.{tree}
use Rattle.sap_process.specs.code.Tests.{var_flawed}
use Rattle.sap_process.proofs.occurrences.+any.Given as goal

abbrev pub decreases-any_in_term : goal.decreases-any_in_term
decreases-any_in_term l = 2 * node_count (tree l.t.now)

abbrev pub decreases-any_in_terms : goal.decreases-any_in_terms
decreases-any_in_terms l = 2 * trees_count (trees_of l.ts.now) + 1

abbrev pub invariant-any_in_terms-loop-k : goal.invariant-any_in_terms-loop-k
invariant-any_in_terms-loop-k l =
    list_any (var_flawed l.which l.scope) (trees_vars (trees_of l.ts)) ≡ list_any (var_flawed l.which l.scope) (trees_vars (trees_of (drop l.k l.ts)))
