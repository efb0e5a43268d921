use Rattle.sap_rewrite.proofs.Around.{given_message}
use Rattle.sap_rewrite.proofs.laws.fitting_gives_messages.Goals as goal

pub returns : goal.returns
returns c = given_message
