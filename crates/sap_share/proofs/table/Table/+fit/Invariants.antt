use Rattle.std.proofs.Common.{◌+◌, ◌*◌, drop, length, List}
use Rattle.sap_terms.specs.Tree.{node_count, trees_count, trees_of}
use Rattle.sap_terms.specs.View.{tree}
use Rattle.sap_terms.specs.declared.binding.Binding.{Binding}
use Rattle.sap_share.specs.Env.{AreBound, bindings_of}
use Rattle.sap_share.specs.Shared.{trees_at}
use Rattle.sap_share.specs.code.Matching.{FindsAll, FailsAll}
use Rattle.sap_share.proofs.table.Table.+fit.Given as goal

abbrev pub decreases-fit : goal.decreases-fit
decreases-fit l = 2 * node_count (tree l.pattern.now)

abbrev pub decreases-fit_all : goal.decreases-fit_all
decreases-fit_all l = 2 * trees_count (trees_of l.ps.now) + 1

abbrev pub invariant-fit_all-loop-i : goal.invariant-fit_all-loop-i
invariant-fit_all-loop-i l = record {
  finds : (c : List Binding) → FindsAll (trees_of (drop l.i l.ps)) (trees_of (trees_at l.self.trees (drop l.i l.ks))) (bindings_of l.self.trees l.env) c
      → FindsAll (trees_of l.ps) (trees_of (trees_at l.self.trees l.ks)) (bindings_of l.self.trees l.initial.env) c;
  fails : FailsAll (trees_of (drop l.i l.ps)) (trees_of (trees_at l.self.trees (drop l.i l.ks))) (bindings_of l.self.trees l.env)
      → FailsAll (trees_of l.ps) (trees_of (trees_at l.self.trees l.ks)) (bindings_of l.self.trees l.initial.env);
  below : AreBound (length l.self.trees) l.env;
}
