use Rattle.std.proofs.Common.{◌≡◌, drop}
use Rattle.std.specs.List.{fold}
use Rattle.sap_terms.specs.code.Hashed.{fed_trees}
use Rattle.sap_terms.specs.Tree.{trees_of}
use Rattle.sap_terms.proofs.term.+hash.Given as goal

abbrev pub invariant-TermList::feed-loop-k : goal.invariant-TermList::feed-loop-k
invariant-TermList::feed-loop-k g l =
    fold g.H.Hasher.write l.initial.state (fed_trees (trees_of l.fn.self)) ≡ fold g.H.Hasher.write l.state (fed_trees (trees_of (drop l.k l.fn.self)))
