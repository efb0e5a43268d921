use Rattle.std.proofs.Common.{◌≡◌, ◌+◌, ◌*◌, drop}
use Rattle.sap_terms.specs.Tree.{node_count, trees_count, trees_of}
use Rattle.sap_terms.specs.Variables.{trees_vars}
use Rattle.sap_terms.specs.View.{tree}
use Rattle.sap_process.specs.code.Binders.{with_new}
use Rattle.sap_process.proofs.binding.+bind.Given as goal

abbrev pub decreases-bind_term : goal.decreases-bind_term
decreases-bind_term l = 2 * node_count (tree l.t.now)

abbrev pub decreases-bind_terms : goal.decreases-bind_terms
decreases-bind_terms l = 2 * trees_count (trees_of l.ts.now) + 1

abbrev pub invariant-bind_terms-loop-k : goal.invariant-bind_terms-loop-k
invariant-bind_terms-loop-k l = with_new l.scope (trees_vars (trees_of (drop l.k l.ts))) ≡ with_new l.initial.scope (trees_vars (trees_of l.ts))
