use Rattle.sap_rule.proofs.Reached.{kept}
use Rattle.sap_rule.proofs.laws.steps_keep_messages.Goals as goal

pub returns : goal.returns
returns c = kept c.names_are_messages.ensures c.forms_are_messages.ensures
