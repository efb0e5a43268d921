use Rattle.std.proofs.Common.{◌≡◌, ◌+◌, ◌*◌, drop, length, map}
use Rattle.sap_match.specs.View.{held}
use Rattle.sap_match.specs.Matched.{agreed_all}
use Rattle.sap_match.specs.code.Reached.{two_at}
use Rattle.sap_terms.specs.Tree.{node_count, trees_count, trees_of}
use Rattle.sap_terms.specs.View.{tree}
use Rattle.sap_match.proofs.agreeing.+agree.Given as goal

abbrev pub decreases-agree : goal.decreases-agree
decreases-agree l = 2 * node_count (tree l.s.now)

abbrev pub decreases-agree_each : goal.decreases-agree_each
decreases-agree_each l = 2 * trees_count (trees_of l.ss.now) + 1

abbrev pub invariant-agree_each-loop-k : goal.invariant-agree_each-loop-k
invariant-agree_each-loop-k l = record {
  same_length : length l.ss ≡ length l.ts;
  rest : agreed_all (trees_of l.ss) (trees_of l.ts) (two_at l.left l.right l.fn.at) (map held l.initial.values.items) ≡ agreed_all (trees_of (drop l.k l.ss)) (trees_of (drop l.k l.ts)) (two_at l.left l.right l.place) (map held l.values.items);
  same : l.values.items ≡ l.initial.values.items;
}
