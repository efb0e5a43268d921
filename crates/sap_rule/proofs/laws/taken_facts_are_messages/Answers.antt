use Rattle.sap_rule.proofs.Reached.{from_messages}
use Rattle.sap_rule.proofs.laws.taken_facts_are_messages.Goals as goal

pub returns : goal.returns
returns c = from_messages
