use Rattle.sap_judge.proofs.JudgingByHand.{cost_each, held_at_limit, failed_at_limit, above_limit, far_above, hide_each}
use Rattle.sap_judge.proofs.laws.judging_by_hand.Goals as goal

pub returns-clause-costs : goal.returns-clause-costs
returns-clause-costs c = cost_each

pub returns-clause-at_limit : goal.returns-clause-at_limit
returns-clause-at_limit c = held_at_limit

pub returns-clause-not_at_limit : goal.returns-clause-not_at_limit
returns-clause-not_at_limit c = failed_at_limit

pub returns-clause-above_limit : goal.returns-clause-above_limit
returns-clause-above_limit c = above_limit

pub returns-clause-far_above : goal.returns-clause-far_above
returns-clause-far_above c = far_above

pub returns-clause-hidden : goal.returns-clause-hidden
returns-clause-hidden c = hide_each
