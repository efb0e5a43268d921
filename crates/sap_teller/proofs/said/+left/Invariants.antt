use Rattle.std.proofs.Common.{◌≡◌, ◌+◌, drop}
use Rattle.sap_terms.specs.Tree.{trees_count, trees_of}
use Rattle.sap_teller.proofs.said.+left.Given as goal

abbrev pub invariant-all_nodes_left-loop-k : goal.invariant-all_nodes_left-loop-k
invariant-all_nodes_left-loop-k l = trees_count (trees_of l.ts) + l.left ≡ trees_count (trees_of (drop l.k l.ts)) + l.most
