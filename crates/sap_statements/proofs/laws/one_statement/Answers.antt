use Rattle.sap_statements.proofs.Statements.{one_statement}
use Rattle.sap_statements.proofs.laws.one_statement.Goals as goal

pub returns : goal.returns
returns c = one_statement c.formula_laws.ensures
