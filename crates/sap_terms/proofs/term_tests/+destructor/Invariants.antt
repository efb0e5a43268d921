use Rattle.std.proofs.Common.{◌≡◌, ◌+◌, ◌*◌, drop}
use Rattle.sap_terms.specs.Tree.{node_count, trees_count, trees_of}
use Rattle.sap_terms.specs.View.{tree}
use Rattle.sap_terms.specs.TermTests.{any_has_destructor}
use Rattle.sap_terms.proofs.term_tests.+destructor.Given as goal

abbrev pub decreases-applies_destructor : goal.decreases-applies_destructor
decreases-applies_destructor l = 2 * node_count (tree l.t.now)

abbrev pub decreases-one_applies_destructor : goal.decreases-one_applies_destructor
decreases-one_applies_destructor l = 2 * trees_count (trees_of l.ts.now) + 1

abbrev pub invariant-one_applies_destructor-loop-k : goal.invariant-one_applies_destructor-loop-k
invariant-one_applies_destructor-loop-k l = any_has_destructor l.sig (trees_of l.ts) ≡ any_has_destructor l.sig (trees_of (drop l.k l.ts))
