use Rattle.std.proofs.Common.{◌≡◌, ◌+◌, ◌*◌, ◌-◌, ◌^◌, min, map, take, drop}
use Rattle.sap_terms.specs.Tree.{node_count, trees_count, trees_of}
use Rattle.sap_terms.specs.View.{tree}
use Rattle.sap_terms.specs.Equations.{equations}
use Rattle.sap_rewrite.specs.code.Reduce.{nf}
use Rattle.sap_rewrite.specs.code.Fit.{all_fit}
use Rattle.sap_rewrite.proofs.within.+within.Given as goal

abbrev pub decreases-within_term : goal.decreases-within_term
decreases-within_term l = 2 * node_count (tree l.t.now)

abbrev pub decreases-within_all : goal.decreases-within_all
decreases-within_all l = 2 * trees_count (trees_of l.ts.now) + 1

abbrev pub invariant-within_all-loop-k : goal.invariant-within_all-loop-k
invariant-within_all-loop-k l = record {
  forms : l.terms ≡ map (nf (equations l.sig)) (take l.k l.ts);
  count : l.nodes ≡ min (trees_count (trees_of l.terms)) (2 ^ 64 - 1);
  fits : all_fit (equations l.sig) l.most (trees_of l.ts) ≡ all_fit (equations l.sig) l.most (trees_of (drop l.k l.ts));
}
