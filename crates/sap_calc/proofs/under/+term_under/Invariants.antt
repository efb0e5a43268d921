use Rattle.std.proofs.Common.{◌≡◌, ◌+◌, ◌*◌, map, take}
use Rattle.sap_terms.specs.Choice.{instance}
use Rattle.sap_terms.specs.Tree.{node_count, trees_count, trees_of}
use Rattle.sap_terms.specs.View.{tree}
use Rattle.sap_share.specs.Env.{given}
use Rattle.sap_calc.proofs.under.+term_under.Given as goal

abbrev pub decreases-term_under : goal.decreases-term_under
decreases-term_under l = 2 * node_count (tree l.t.now)

abbrev pub decreases-terms_under : goal.decreases-terms_under
decreases-terms_under l = 2 * trees_count (trees_of l.ts.now) + 1

abbrev pub invariant-terms_under-loop-k : goal.invariant-terms_under-loop-k
invariant-terms_under-loop-k l = l.made ≡ map (instance (given l.table.trees l.env)) (take l.k l.ts)
