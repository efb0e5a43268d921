use Rattle.std.proofs.Common.{◌≡◌, ◌-◌, ◌^◌, min, max, drop}
use Rattle.sap_terms.specs.Tree.{trees_of, trees_levels}
use Rattle.sap_terms.proofs.term.+levels.Given as goal

abbrev pub invariant-TermList::levels-loop-k : goal.invariant-TermList::levels-loop-k
invariant-TermList::levels-loop-k l =
    max l.deepest (min (trees_levels (trees_of (drop l.k l.fn.self))) (2 ^ 64 - 1))
    ≡ min (trees_levels (trees_of l.fn.self)) (2 ^ 64 - 1)
