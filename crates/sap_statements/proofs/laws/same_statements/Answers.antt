use Rattle.sap_statements.proofs.Signatures.{statement_too}
use Rattle.sap_statements.proofs.laws.same_statements.Goals as goal

pub returns : goal.returns
returns c = λ g h m s a r. statement_too c.term_laws.ensures.spelled g h m r
