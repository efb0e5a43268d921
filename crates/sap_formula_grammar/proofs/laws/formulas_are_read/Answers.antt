use Rattle.sap_formula_grammar.proofs.FormulaPlaces.{short_formula_is, short_formula_read}
use Rattle.sap_formula_grammar.proofs.laws.formulas_are_read.Goals as goal

pub returns-clause-sound : goal.returns-clause-sound
returns-clause-sound c = short_formula_is c.term_laws.ensures.read

pub returns-clause-complete : goal.returns-clause-complete
returns-clause-complete c = short_formula_read c.term_laws.ensures.read
