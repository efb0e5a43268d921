use Rattle.std.proofs.Common.{◌≡◌, ◌+◌, ◌*◌, drop}
use Rattle.sap_terms.specs.Tree.{node_count, trees_count, trees_of}
use Rattle.sap_terms.specs.View.{tree}
use Rattle.sap_formula_words.specs.code.Walk.{seek_all}
use Rattle.sap_formula_words.proofs.terms.+seek.Given as goal

abbrev pub decreases-seek : goal.decreases-seek
decreases-seek l = 2 * node_count (tree l.term.now)

abbrev pub decreases-seek_all : goal.decreases-seek_all
decreases-seek_all l = 2 * trees_count (trees_of l.terms.now) + 1

abbrev pub invariant-seek_all-loop-k : goal.invariant-seek_all-loop-k
invariant-seek_all-loop-k l =
    seek_all (trees_of l.terms) l.initial.part l.initial.node ≡ seek_all (trees_of (drop l.k l.terms)) l.part l.node
