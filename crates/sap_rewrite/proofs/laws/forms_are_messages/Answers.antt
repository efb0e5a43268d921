use Rattle.sap_rewrite.proofs.Forms.{form_message}
use Rattle.sap_rewrite.proofs.laws.forms_are_messages.Goals as goal

pub returns : goal.returns
returns c = form_message
