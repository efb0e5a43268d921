use Rattle.std.proofs.Common.{◌≡◌, drop}
use Rattle.sap_grammar.specs.Words.{words_of}
use Rattle.sap_formula_words.specs.code.Walk.{list_walk}
use Rattle.sap_formula_words.proofs.walk.walk_list.Given as goal

abbrev pub invariant-loop-k : goal.invariant-loop-k
invariant-loop-k l =
    list_walk l.terms l.initial.part (words_of l.bytes l.initial.tokens) ≡ list_walk (drop l.k l.terms) l.part (words_of l.bytes l.tokens)
