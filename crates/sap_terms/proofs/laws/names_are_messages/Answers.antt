use Rattle.sap_terms.proofs.Leaves.{names_messages}
use Rattle.sap_terms.proofs.laws.names_are_messages.Goals as goal

pub returns : goal.returns
returns c = names_messages
