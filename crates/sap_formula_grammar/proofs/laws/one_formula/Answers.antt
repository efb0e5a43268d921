use Rattle.sap_formula_grammar.proofs.Formulas.{one_formula}
use Rattle.sap_formula_grammar.proofs.FormulaPlaces.{one_formula_at}
use Rattle.sap_formula_grammar.proofs.laws.one_formula.Goals as goal

pub returns-clause-words : goal.returns-clause-words
returns-clause-words c = one_formula c.term_laws.ensures.read

pub returns-clause-places : goal.returns-clause-places
returns-clause-places c = one_formula_at c.term_laws.ensures.read
