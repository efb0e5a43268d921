use Rattle.sap_macro.proofs.WrittenByHand.{at_once, form, no_own_step, one_copy, one_replaced, shown_once, shown_trace, undefined, undefined_stays, use_of_use, use_of_use_only, use_only, use_starts}
use Rattle.sap_macro.proofs.by_hand.written_runs_by_hand.Goals as goal

pub returns-clause-use_starts : goal.returns-clause-use_starts
returns-clause-use_starts c = use_starts

pub returns-clause-use_alone : goal.returns-clause-use_alone
returns-clause-use_alone c = use_only

pub returns-clause-use_of_use : goal.returns-clause-use_of_use
returns-clause-use_of_use c = use_of_use

pub returns-clause-use_of_use_alone : goal.returns-clause-use_of_use_alone
returns-clause-use_of_use_alone c = use_of_use_only

pub returns-clause-undefined : goal.returns-clause-undefined
returns-clause-undefined c = undefined

pub returns-clause-undefined_stays : goal.returns-clause-undefined_stays
returns-clause-undefined_stays c = undefined_stays

pub returns-clause-form : goal.returns-clause-form
returns-clause-form c = form

pub returns-clause-at_once : goal.returns-clause-at_once
returns-clause-at_once c = at_once

pub returns-clause-shows : goal.returns-clause-shows
returns-clause-shows c = λ g. shown_once c.leaves_are_normal.ensures g

pub returns-clause-trace : goal.returns-clause-trace
returns-clause-trace c = λ g. shown_trace c.leaves_are_normal.ensures g

pub returns-clause-no_own_step : goal.returns-clause-no_own_step
returns-clause-no_own_step c = no_own_step

pub returns-clause-copies : goal.returns-clause-copies
returns-clause-copies c = one_copy

pub returns-clause-replaces : goal.returns-clause-replaces
returns-clause-replaces c = one_replaced
