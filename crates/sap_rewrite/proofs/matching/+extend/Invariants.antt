use Rattle.std.proofs.Common.{◌≡◌, ◌+◌, ◌*◌, drop}
use Rattle.sap_terms.specs.Tree.{node_count, trees_count, trees_of}
use Rattle.sap_terms.specs.View.{tree}
use Rattle.std.specs.Option.{option_copied}
use Rattle.sap_rewrite.specs.code.Walk.{match_trees, skipped}
use Rattle.sap_rewrite.proofs.matching.+extend.Given as goal

abbrev pub decreases-extend : goal.decreases-extend
decreases-extend l = 2 * node_count (tree l.p.now)

abbrev pub decreases-extend_all : goal.decreases-extend_all
decreases-extend_all l = 2 * trees_count (trees_of l.ps.now) + 1

abbrev pub invariant-extend_all-loop-k : goal.invariant-extend_all-loop-k
invariant-extend_all-loop-k l =
    match_trees (skipped (option_copied l.sig)) (trees_of l.ps) (trees_of l.ts) l.initial.b ≡ match_trees (skipped (option_copied l.sig)) (trees_of (drop l.k l.ps)) (trees_of (drop l.k l.ts)) l.b
