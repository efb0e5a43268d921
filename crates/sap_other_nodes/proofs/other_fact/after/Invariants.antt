use Rattle.std.proofs.Common.{◌≡◌, ◌≤◌, ◌+◌, ◌-◌, ◌^◌, min, drop}
use Rattle.sap_terms.specs.Tree.{trees_of, trees_count}
use Rattle.sap_other_nodes.proofs.other_fact.after.Given as goal

abbrev pub invariant-loop-k : goal.invariant-loop-k
invariant-loop-k l =
    (l.node ≤ 2 ^ 64 - 1)
    × (min (l.node + trees_count (trees_of (drop l.k l.f.args))) (2 ^ 64 - 1)
    ≡ min (l.initial.node + trees_count (trees_of l.f.args)) (2 ^ 64 - 1))
