use Rattle.sap_restrict.proofs.OneMore.{one_more_law}
use Rattle.sap_restrict.proofs.laws.one_restriction_breaks.Goals as goal

pub returns : goal.returns
returns c = one_more_law c.normal_terms_decide.ensures
