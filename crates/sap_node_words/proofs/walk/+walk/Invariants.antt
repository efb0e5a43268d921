use Rattle.std.proofs.Common.{◌≡◌, drop}
use Rattle.sap_terms.specs.Tree.{trees_of}
use Rattle.sap_grammar.specs.Words.{words_of}
use Rattle.sap_node_words.specs.code.Walk.{list_walk}
use Rattle.sap_node_words.proofs.walk.+walk.Given as goal

abbrev pub invariant-walk_args-loop-k : goal.invariant-walk_args-loop-k
invariant-walk_args-loop-k l =
    list_walk (trees_of l.terms) l.initial.before (words_of l.bytes l.initial.tokens) ≡ list_walk (trees_of (drop l.k l.terms)) l.before (words_of l.bytes l.tokens)
