use Rattle.std.proofs.Common.{◌≡◌, ◌+◌, ◌*◌, drop}
use Rattle.sap_terms.specs.Tree.{node_count, trees_count, trees_of}
use Rattle.sap_terms.specs.View.{tree}
use Rattle.sap_formula.specs.Parts.{terms_parts}
use Rattle.sap_formula.specs.code.Scoped.{binders}
use Rattle.sap_formula.specs.code.Tests.{first_name}
use Rattle.sap_formula.proofs.search.+in_term.Given as goal

abbrev pub decreases-in_term : goal.decreases-in_term
decreases-in_term l = 2 * node_count (tree l.t.now)

abbrev pub decreases-in_terms : goal.decreases-in_terms
decreases-in_terms l = 2 * trees_count (trees_of l.ts.now) + 1

abbrev pub invariant-in_terms-loop-k : goal.invariant-in_terms-loop-k
invariant-in_terms-loop-k l =
    first_name l.aim.sig.now l.aim.reserved l.aim.which (terms_parts (binders l.scope) (trees_of l.ts)) ≡ first_name l.aim.sig.now l.aim.reserved l.aim.which (terms_parts (binders l.scope) (trees_of (drop l.k l.ts)))
