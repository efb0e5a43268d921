use Rattle.sap_beyond.proofs.Meant.{shape_is}
use Rattle.sap_beyond.proofs.laws.shapes_are_one.Goals as goal

pub returns : goal.returns
returns c = λ ds p identifiers order uses. shape_is c.expansions_are_meant.ensures ds p identifiers order uses
