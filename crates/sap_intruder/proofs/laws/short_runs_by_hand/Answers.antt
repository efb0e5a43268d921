use Rattle.sap_intruder.proofs.ShortByHand as hand
use Rattle.sap_intruder.proofs.laws.short_runs_by_hand.Goals as goal

pub returns-clause-legal : goal.returns-clause-legal
returns-clause-legal c = hand.legal c.leaves_are_normal.ensures

pub returns-clause-filled : goal.returns-clause-filled
returns-clause-filled c = hand.filled c.leaves_are_normal.ensures

pub returns-clause-no_entry : goal.returns-clause-no_entry
returns-clause-no_entry c = hand.no_entry

pub returns-clause-left_out : goal.returns-clause-left_out
returns-clause-left_out c = (tt, λ h. h)

pub returns-clause-bad_term : goal.returns-clause-bad_term
returns-clause-bad_term c = hand.bad_term

pub returns-clause-not_bad : goal.returns-clause-not_bad
returns-clause-not_bad c = hand.not_bad

pub returns-clause-thread_first : goal.returns-clause-thread_first
returns-clause-thread_first c = hand.thread_first

pub returns-clause-form_next : goal.returns-clause-form_next
returns-clause-form_next c = hand.form_next

pub returns-clause-not_deduced : goal.returns-clause-not_deduced
returns-clause-not_deduced c = hand.underivable c.leaves_are_normal.ensures c.normal_forms_are_unique.ensures

pub returns-clause-deduced : goal.returns-clause-deduced
returns-clause-deduced c = hand.derivable c.leaves_are_normal.ensures c.normal_forms_are_unique.ensures
