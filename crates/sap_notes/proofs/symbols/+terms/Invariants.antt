use Rattle.std.proofs.Common.{◌≡◌, ◌+◌, ◌*◌, drop}
use Rattle.sap_terms.specs.Tree.{node_count, trees_count, trees_of}
use Rattle.sap_terms.specs.View.{tree}
use Rattle.sap_notes.specs.Symbols.{terms_symbols}
use Rattle.sap_notes.specs.code.Gathered.{gathered}
use Rattle.sap_notes.proofs.symbols.+terms.Given as goal

abbrev pub decreases-add_term : goal.decreases-add_term
decreases-add_term l = 2 * node_count (tree l.t.now)

abbrev pub decreases-add_terms : goal.decreases-add_terms
decreases-add_terms l = 2 * trees_count (trees_of l.ts.now) + 1

abbrev pub invariant-add_terms-loop-k : goal.invariant-add_terms-loop-k
invariant-add_terms-loop-k l =
    gathered l.names (terms_symbols (trees_of (drop l.k l.ts))) ≡ gathered l.initial.names (terms_symbols (trees_of l.ts))
