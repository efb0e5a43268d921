use Rattle.sap_statements.proofs.laws.statement_laws.Goals as goal

pub returns : goal.returns
returns c = record { one = c.one_statement.ensures; too = c.same_statements.ensures; some = c.some_statement.ensures }
