use Rattle.std.proofs.Common.{◌≡◌, ◌+◌, ◌*◌, map, take}
use Rattle.sap_terms.specs.Choice.{instance}
use Rattle.sap_terms.specs.Tree.{node_count, trees_count, trees_of}
use Rattle.sap_terms.specs.View.{tree}
use Rattle.sap_process.proofs.replacing.+replaced_term.Given as goal

abbrev pub decreases-replaced_term : goal.decreases-replaced_term
decreases-replaced_term g l = 2 * node_count (tree l.t.now)

abbrev pub decreases-replaced_terms : goal.decreases-replaced_terms
decreases-replaced_terms g l = 2 * trees_count (trees_of l.ts.now) + 1

abbrev pub invariant-replaced_terms-loop-k : goal.invariant-replaced_terms-loop-k
invariant-replaced_terms-loop-k g l = l.made ≡ map (instance (g.R.Replacing.choice l.r)) (take l.k l.ts)
