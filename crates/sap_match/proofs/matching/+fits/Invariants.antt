use Rattle.std.proofs.Common.{◌≡◌, ◌+◌, ◌*◌, drop, length, map}
use Rattle.sap_match.specs.View.{held}
use Rattle.sap_match.specs.Matched.{StaysInFront}
use Rattle.sap_match.specs.Matched.{matched_all}
use Rattle.sap_terms.specs.Tree.{node_count, trees_count, trees_of}
use Rattle.sap_terms.specs.View.{tree}
use Rattle.sap_match.proofs.matching.+fits.Given as goal

abbrev pub decreases-fits : goal.decreases-fits
decreases-fits l = 2 * node_count (tree l.p.now)

abbrev pub decreases-fits_each : goal.decreases-fits_each
decreases-fits_each l = 2 * trees_count (trees_of l.ps.now) + 1

abbrev pub invariant-fits_each-loop-k : goal.invariant-fits_each-loop-k
invariant-fits_each-loop-k l = record {
  same_length : length l.ps ≡ length l.ts;
  rest : matched_all (trees_of l.ps) (trees_of l.ts) (record { marks = drop l.at l.marks; held = map held l.initial.values.items }) ≡ matched_all (trees_of (drop l.k l.ps)) (trees_of (drop l.k l.ts)) (record { marks = drop l.place l.marks; held = map held l.values.items });
  front : StaysInFront l.initial.values.items l.values.items;
}
