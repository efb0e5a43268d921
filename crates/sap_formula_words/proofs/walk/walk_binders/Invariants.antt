use Rattle.std.proofs.Common.{◌≡◌, drop}
use Rattle.sap_grammar.specs.Words.{words_of}
use Rattle.sap_formula_words.specs.code.Walk.{binders_walk}
use Rattle.sap_formula_words.proofs.walk.walk_binders.Given as goal

abbrev pub invariant-loop-k : goal.invariant-loop-k
invariant-loop-k l =
    binders_walk l.binders l.initial.part (words_of l.bytes l.initial.tokens) ≡ binders_walk (drop l._k l.binders) l.part (words_of l.bytes l.tokens)
