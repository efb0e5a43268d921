use Rattle.std.proofs.Common.{drop}
use Rattle.sap_terms.specs.Tree.{trees_of}
use Rattle.sap_rewrite.specs.Around.{all_outer_vars}
use Rattle.sap_sides.specs.Fitting.{ArgsFit}
use Rattle.sap_sides.proofs.Found.{Continues}
use Rattle.sap_sides.proofs.matching.match_args.Given as goal

abbrev pub invariant-loop-k : goal.invariant-loop-k
invariant-loop-k l =
    Continues (ArgsFit l.sig l.ps l.ts) (ArgsFit l.sig (drop l.k l.ps) (drop l.k l.ts)) (all_outer_vars l.sig (trees_of l.ps)) (all_outer_vars l.sig (trees_of (drop l.k l.ps))) l.fn.b l.c
