use Rattle.sap_terms.specs.code.SameLaws.{test_from_same}
use Rattle.sap_terms.proofs.term.Term.same.Goals as goal

pub returns-clause-test : goal.returns-clause-test
returns-clause-test c = test_from_same c.is.result c.args.self.now c.args.other.now c.is.ensures
