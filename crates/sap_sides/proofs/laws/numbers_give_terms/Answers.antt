use Rattle.sap_sides.proofs.ByNumbers.{given_bound}
use Rattle.sap_sides.proofs.laws.numbers_give_terms.Goals as goal

pub returns : goal.returns
returns c = given_bound
