use Rattle.std.proofs.Common.{◌≡◌, ◌+◌, ◌*◌, map, take}
use Rattle.sap_terms.specs.Tree.{node_count, trees_count, trees_of}
use Rattle.sap_terms.specs.View.{tree}
use Rattle.sap_terms.specs.Equations.{equations}
use Rattle.sap_rewrite.specs.code.Reduce.{nf}
use Rattle.sap_rewrite.proofs.normal_form.+normal.Given as goal

abbrev pub decreases-normal_term : goal.decreases-normal_term
decreases-normal_term l = 2 * node_count (tree l.t.now)

abbrev pub decreases-normal_all : goal.decreases-normal_all
decreases-normal_all l = 2 * trees_count (trees_of l.ts.now) + 1

abbrev pub invariant-normal_all-loop-k : goal.invariant-normal_all-loop-k
invariant-normal_all-loop-k l = l.out ≡ map (nf (equations l.sig)) (take l.k l.ts)
