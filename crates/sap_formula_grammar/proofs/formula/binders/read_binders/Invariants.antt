use Rattle.std.proofs.Common.{◌≡◌, length}
use Rattle.sap_grammar.specs.Words.{words_of}
use Rattle.sap_grammar.specs.Reading.{behind}
use Rattle.sap_formula_grammar.specs.FormulaReading.{binders}
use Rattle.sap_formula_grammar.proofs.formula.binders.read_binders.Given as goal

abbrev pub invariant-loop-turns : goal.invariant-loop-turns
invariant-loop-turns l = binders (length l.tokens) (words_of l.bytes l.tokens) ≡ behind l.binders (binders l.turns (words_of l.bytes l.rest))

abbrev pub decreases-loop-turns : goal.decreases-loop-turns
decreases-loop-turns l = l.turns
