use Rattle.sap_attacks.proofs.Serving.{pending-decides}
use Rattle.sap_attacks.proofs.laws.pending_decides.Goals as goal

pub returns : goal.returns
returns c = pending-decides
