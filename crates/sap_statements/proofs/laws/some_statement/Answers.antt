use Rattle.sap_statements.proofs.Statements.{some_statement}
use Rattle.sap_statements.proofs.laws.some_statement.Goals as goal

pub returns : goal.returns
returns c = some_statement c.formula_laws.ensures
