use Rattle.sap_other_nodes.proofs.BindersByHand as hand
use Rattle.sap_other_nodes.proofs.laws.binders_by_hand.Goals as goal

pub returns-clause-pattern : goal.returns-clause-pattern
returns-clause-pattern c = hand.pattern

pub returns-clause-not_second : goal.returns-clause-not_second
returns-clause-not_second c = hand.not_second

pub returns-clause-not_channel : goal.returns-clause-not_channel
returns-clause-not_channel c = hand.not_channel

pub returns-clause-outer : goal.returns-clause-outer
returns-clause-outer c = hand.outer_one

pub returns-clause-not_inner : goal.returns-clause-not_inner
returns-clause-not_inner c = hand.not_inner

pub returns-clause-found : goal.returns-clause-found
returns-clause-found c = hand.found

pub returns-clause-missing : goal.returns-clause-missing
returns-clause-missing c = hand.missing

pub returns-clause-not_missing : goal.returns-clause-not_missing
returns-clause-not_missing c = hand.not_missing
