use Rattle.std.proofs.Common.{◌≡◌, ◌+◌, ◌*◌, drop, map}
use Rattle.sap_match.specs.code.Digests.{fed_by_all}
use Rattle.sap_match.specs.View.{held}
use Rattle.sap_terms.specs.Tree.{node_count, trees_count, trees_of}
use Rattle.sap_terms.specs.View.{tree}
use Rattle.sap_match.proofs.digest.+feed.Given as goal

abbrev pub decreases-feed : goal.decreases-feed
decreases-feed l = 2 * node_count (tree l.p.now)

abbrev pub decreases-feed_each : goal.decreases-feed_each
decreases-feed_each l = 2 * trees_count (trees_of l.ps.now) + 1

abbrev pub invariant-feed_each-loop-k : goal.invariant-feed_each-loop-k
invariant-feed_each-loop-k l =
    fed_by_all (trees_of l.ps) (drop l.at l.marks) (map held l.values.items) l.initial.state ≡ fed_by_all (trees_of (drop l.k l.ps)) (drop l.place l.marks) (map held l.values.items) l.state
