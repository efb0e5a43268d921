use Rattle.sap_statements.proofs.laws.formula_laws.Goals as goal

pub returns : goal.returns
returns c = record { is = c.formulas_are_read.ensures.sound; read = c.formulas_are_read.ensures.complete }
