use Rattle.sap_terms.specs.code.Keys.{test_from_equal}
use Rattle.sap_terms.proofs.term.TermListPartialEq.eq.Goals as goal

pub returns : goal.returns
returns c = test_from_equal c.is.result c.args.self.now c.args.other.now c.is.ensures
