use Rattle.sap_attacks.proofs.Serving.{given-messages-serve}
use Rattle.sap_attacks.proofs.laws.given_messages_serve.Goals as goal

pub returns : goal.returns
returns c = given-messages-serve
