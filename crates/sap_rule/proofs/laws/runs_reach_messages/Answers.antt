use Rattle.sap_rule.proofs.Reached.{reached}
use Rattle.sap_rule.proofs.laws.runs_reach_messages.Goals as goal

pub returns : goal.returns
returns c = reached c.steps_keep_messages.ensures
