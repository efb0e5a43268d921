use Rattle.std.proofs.Common.{◌≡◌, length}
use Rattle.sap_grammar.specs.Words.{words_of}
use Rattle.sap_formula_words.specs.code.Walk.{behind_all}
use Rattle.sap_formula_words.proofs.walk.behind_all.Given as goal

abbrev pub invariant-loop-rest : goal.invariant-loop-rest
invariant-loop-rest l = behind_all l.mark (words_of l.bytes l.tokens) ≡ behind_all l.mark (words_of l.bytes l.rest)

abbrev pub decreases-loop-rest : goal.decreases-loop-rest
decreases-loop-rest l = length l.rest
