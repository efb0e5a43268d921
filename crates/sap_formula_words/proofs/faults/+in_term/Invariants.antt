use Rattle.std.proofs.Common.{◌≡◌, ◌+◌, ◌*◌, drop}
use Rattle.std.specs.Option.{option_copied}
use Rattle.sap_terms.specs.Tree.{node_count, trees_count, trees_of}
use Rattle.sap_terms.specs.View.{tree}
use Rattle.sap_formula.specs.Parts.{terms_parts}
use Rattle.sap_formula_words.specs.code.Faulty.{is_faulty, first_of_all, scope_of}
use Rattle.sap_formula_words.proofs.faults.+in_term.Given as goal

abbrev pub decreases-in_term : goal.decreases-in_term
decreases-in_term l = 2 * node_count (tree l.t.now)

abbrev pub decreases-in_terms : goal.decreases-in_terms
decreases-in_terms l = 2 * trees_count (trees_of l.ts.now) + 1

abbrev pub invariant-in_terms-loop-k : goal.invariant-in_terms-loop-k
invariant-in_terms-loop-k l =
    first_of_all (is_faulty l.aim.sig.now l.aim.which l.aim.name.now) (terms_parts (scope_of (option_copied l.inner)) (trees_of l.ts)) l.initial.before ≡ first_of_all (is_faulty l.aim.sig.now l.aim.which l.aim.name.now) (terms_parts (scope_of (option_copied l.inner)) (trees_of (drop l.k l.ts))) l.before
