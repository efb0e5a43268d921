use Rattle.sap_deduce.proofs.Kept.{numbers_stay}
use Rattle.sap_deduce.proofs.laws.numbers_stay.Goals as goal

pub returns : goal.returns
returns c = numbers_stay
