use Rattle.sap_read.proofs.HeldVariables.{identifiers_hold}
use Rattle.sap_read.proofs.laws.identifiers_hold_variables.Goals as goal

pub returns : goal.returns
returns c = identifiers_hold
