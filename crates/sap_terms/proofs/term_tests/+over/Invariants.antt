use Rattle.std.proofs.Common.{◌≡◌, ◌+◌, ◌*◌, drop}
use Rattle.sap_terms.specs.Tree.{node_count, trees_count, trees_of}
use Rattle.sap_terms.specs.View.{tree}
use Rattle.sap_terms.specs.TermTests.{are_over}
use Rattle.sap_terms.proofs.term_tests.+over.Given as goal

abbrev pub decreases-applies_held : goal.decreases-applies_held
decreases-applies_held l = 2 * node_count (tree l.t.now)

abbrev pub decreases-all_apply_held : goal.decreases-all_apply_held
decreases-all_apply_held l = 2 * trees_count (trees_of l.ts.now) + 1

abbrev pub invariant-all_apply_held-loop-k : goal.invariant-all_apply_held-loop-k
invariant-all_apply_held-loop-k l = are_over l.sig (trees_of l.ts) ≡ are_over l.sig (trees_of (drop l.k l.ts))
