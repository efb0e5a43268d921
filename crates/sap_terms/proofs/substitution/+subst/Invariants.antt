use Rattle.std.proofs.Common.{◌≡◌, ◌+◌, ◌*◌, map, take}
use Rattle.sap_terms.specs.Tree.{node_count, trees_count, trees_of}
use Rattle.sap_terms.specs.View.{tree}
use Rattle.sap_terms.specs.Subst.{subst_tree}
use Rattle.sap_terms.proofs.substitution.+subst.Given as goal

abbrev pub decreases-subst : goal.decreases-subst
decreases-subst l = 2 * node_count (tree l.t.now)

abbrev pub decreases-subst_all : goal.decreases-subst_all
decreases-subst_all l = 2 * trees_count (trees_of l.ts.now) + 1

abbrev pub invariant-subst_all-loop-k : goal.invariant-subst_all-loop-k
invariant-subst_all-loop-k l = l.out ≡ map (subst_tree l.b) (take l.k l.ts)
