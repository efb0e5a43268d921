use Rattle.std.proofs.Common.{◌≡◌, length}
use Rattle.sap_grammar.specs.Words.{words_of}
use Rattle.sap_formula_words.specs.code.Walk.{behind_quotation}
use Rattle.sap_formula_words.proofs.statement.behind_quotation.Given as goal

abbrev pub invariant-loop-rest : goal.invariant-loop-rest
invariant-loop-rest l = behind_quotation (words_of l.bytes l.tokens) ≡ behind_quotation (words_of l.bytes l.rest)

abbrev pub decreases-loop-rest : goal.decreases-loop-rest
decreases-loop-rest l = length l.rest
