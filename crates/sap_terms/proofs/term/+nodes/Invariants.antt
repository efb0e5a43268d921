use Rattle.std.proofs.Common.{◌≡◌, ◌≤◌, ◌+◌, ◌-◌, ◌^◌, min, drop}
use Rattle.sap_terms.specs.Tree.{trees_of, trees_count}
use Rattle.sap_terms.proofs.term.+nodes.Given as goal

abbrev pub invariant-TermList::nodes-loop-k : goal.invariant-TermList::nodes-loop-k
invariant-TermList::nodes-loop-k l =
    (l.total ≤ 2 ^ 64 - 1)
    × (min (l.total + trees_count (trees_of (drop l.k l.fn.self))) (2 ^ 64 - 1)
    ≡ min (trees_count (trees_of l.fn.self)) (2 ^ 64 - 1))
