use Rattle.std.proofs.Common.{◌≡◌, ◌+◌, ◌*◌, ◌++◌, drop}
use Rattle.sap_judge.specs.code.Laid.{place}
use Rattle.sap_judge.specs.code.Ready.{marked_all}
use Rattle.sap_terms.specs.Tree.{node_count, trees_count, trees_of}
use Rattle.sap_terms.specs.View.{tree}
use Rattle.sap_judge.proofs.laying.+lay.Given as goal

abbrev pub decreases-lay : goal.decreases-lay
decreases-lay l = 2 * node_count (tree l.t.now)

abbrev pub decreases-lay_all : goal.decreases-lay_all
decreases-lay_all l = 2 * trees_count (trees_of l.ts.now) + 1

abbrev pub invariant-lay_all-loop-k : goal.invariant-lay_all-loop-k
invariant-lay_all-loop-k l = record {
  marks : l.marks ++ (marked_all (place l.spot) l.seen (trees_of (drop l.k l.ts))).marks ≡ l.initial.marks ++ (marked_all (place l.spot) l.initial.seen (trees_of l.ts)).marks;
  seen : (marked_all (place l.spot) l.seen (trees_of (drop l.k l.ts))).seen ≡ (marked_all (place l.spot) l.initial.seen (trees_of l.ts)).seen;
}
