use Rattle.std.proofs.Common.{length, drop}
use Rattle.sap_terms.specs.Tree.{trees_of}
use Rattle.sap_rewrite.specs.Around.{all_outer_vars}
use Rattle.sap_share.specs.Env.{AreBound, bindings_of}
use Rattle.sap_share.specs.Shared.{trees_at}
use Rattle.sap_sides.specs.Fitting.{ArgsFit}
use Rattle.sap_sides.proofs.Found.{Continues}
use Rattle.sap_sides.proofs.fitting.fit_args.Given as goal

abbrev pub invariant-loop-i : goal.invariant-loop-i
invariant-loop-i l =
    let g = l.table.sig in
    let ts = trees_at l.table.trees l.ks in record {
      left : Continues (ArgsFit g l.ps ts) (ArgsFit g (drop l.i l.ps) (drop l.i ts)) (all_outer_vars g (trees_of l.ps)) (all_outer_vars g (trees_of (drop l.i l.ps))) (bindings_of l.table.trees l.initial.env) (bindings_of l.table.trees l.env);
      bound : AreBound (length l.table.trees) l.env;
    }
