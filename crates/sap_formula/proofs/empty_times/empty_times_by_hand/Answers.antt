use Rattle.sap_formula.proofs.EmptyTimes.{filled_each, unguarded_here, unguarded_there}
use Rattle.sap_formula.proofs.empty_times.empty_times_by_hand.Goals as goal

pub returns-clause-filled : goal.returns-clause-filled
returns-clause-filled c = filled_each

pub returns-clause-unguarded : goal.returns-clause-unguarded
returns-clause-unguarded c = unguarded_there

pub returns-clause-unguarded_filled : goal.returns-clause-unguarded_filled
returns-clause-unguarded_filled c = unguarded_here
