use Rattle.std.proofs.Common.{◌≡◌, ◌+◌, ◌*◌, drop}
use Rattle.sap_terms.specs.Tree.{node_count, trees_count, trees_of}
use Rattle.sap_terms.specs.View.{tree}
use Rattle.sap_formula_words.specs.code.Faulty.{stands_in_any}
use Rattle.sap_formula_words.proofs.faults.+stands_in.Given as goal

abbrev pub decreases-stands_in : goal.decreases-stands_in
decreases-stands_in l = 2 * node_count (tree l.term.now)

abbrev pub decreases-stands_in_any : goal.decreases-stands_in_any
decreases-stands_in_any l = 2 * trees_count (trees_of l.terms.now) + 1

abbrev pub invariant-stands_in_any-loop-k : goal.invariant-stands_in_any-loop-k
invariant-stands_in_any-loop-k l = stands_in_any l.name (trees_of l.terms) ≡ stands_in_any l.name (trees_of (drop l.k l.terms))
