use Rattle.sap_outside.proofs.Requests.{requested_both}
use Rattle.sap_outside.proofs.laws.requests_are_joined.Goals as goal

pub returns : goal.returns
returns c = requested_both
