use Rattle.sap_forward.proofs.NamesMade.{least_made}
use Rattle.sap_forward.proofs.laws.names_are_least.Goals as goal

pub returns : goal.returns
returns c = least_made
