use Rattle.sap_uses.proofs.CausesByHand.{arguments_first, flawed_last, large_first, none_counts, parameters_first}
use Rattle.sap_uses.proofs.by_hand.causes_by_hand.Goals as goal

pub returns-clause-parameters : goal.returns-clause-parameters
returns-clause-parameters c = parameters_first

pub returns-clause-arguments : goal.returns-clause-arguments
returns-clause-arguments c = arguments_first

pub returns-clause-large : goal.returns-clause-large
returns-clause-large c = large_first

pub returns-clause-flawed : goal.returns-clause-flawed
returns-clause-flawed c = flawed_last

pub returns-clause-right : goal.returns-clause-right
returns-clause-right c = none_counts
