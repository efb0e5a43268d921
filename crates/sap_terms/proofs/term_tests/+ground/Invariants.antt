use Rattle.std.proofs.Common.{◌≡◌, ◌+◌, ◌*◌, drop}
use Rattle.sap_terms.specs.Tree.{node_count, trees_count, trees_of}
use Rattle.sap_terms.specs.View.{tree}
use Rattle.sap_terms.specs.TermTests.{are_ground}
use Rattle.sap_terms.proofs.term_tests.+ground.Given as goal

abbrev pub decreases-lacks_variables : goal.decreases-lacks_variables
decreases-lacks_variables l = 2 * node_count (tree l.t.now)

abbrev pub decreases-all_lack_variables : goal.decreases-all_lack_variables
decreases-all_lack_variables l = 2 * trees_count (trees_of l.ts.now) + 1

abbrev pub invariant-all_lack_variables-loop-k : goal.invariant-all_lack_variables-loop-k
invariant-all_lack_variables-loop-k l = are_ground (trees_of l.ts) ≡ are_ground (trees_of (drop l.k l.ts))
