use Rattle.std.proofs.Common.{◌≡◌, ◌+◌, ◌*◌, ◌++◌, map, take}
use Rattle.std.specs.Prelude.{codes}
use Rattle.sap_terms.specs.Tree.{node_count, trees_count, trees_of}
use Rattle.sap_terms.specs.View.{tree}
use Rattle.sap_called.specs.NamedTerms.{named}
use Rattle.sap_grammar.specs.Pieces.{joined}
use Rattle.sap_grammar.specs.TermText.{tree_text}
use Rattle.sap_called.proofs.terms.+push.Given as goal

abbrev pub decreases-push : goal.decreases-push
decreases-push l = 3 * node_count (tree l.t.now)

abbrev pub decreases-push_pair : goal.decreases-push_pair
decreases-push_pair l = 3 * trees_count (trees_of l.args.now) + 2

abbrev pub decreases-push_applied : goal.decreases-push_applied
decreases-push_applied l = 3 * trees_count (trees_of l.args.now) + 2

abbrev pub decreases-push_terms : goal.decreases-push_terms
decreases-push_terms l = 3 * trees_count (trees_of l.terms.now) + 1

abbrev pub invariant-push_terms-loop-k : goal.invariant-push_terms-loop-k
invariant-push_terms-loop-k l = l.text ≡ l.initial.text ++ joined (codes ",") (map (λ t. tree_text (named l.names t)) (take l.k l.terms))
