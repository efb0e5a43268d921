use Rattle.sap_restrict.proofs.ByHand.{by_hand_started, by_hand_started_twice, by_hand_equal, by_hand_equal_false, by_hand_unequal, by_hand_unequal_false, by_hand_found, by_hand_deleted_found, by_hand_replaced_found, by_hand_found_before, by_hand_missed, by_hand_other_missed, by_hand_stored_missed, by_hand_locked_again, by_hand_locked_while_held, by_hand_known_input, by_hand_unknown_input, by_hand_input_twice, by_hand_input_after_event, by_hand_input_not_last}
use Rattle.sap_restrict.proofs.laws.restrictions_by_hand.Goals as goal

pub returns-clause-started : goal.returns-clause-started
returns-clause-started c = by_hand_started c.names_are_messages.ensures c.normal_terms_decide.ensures

pub returns-clause-started_twice : goal.returns-clause-started_twice
returns-clause-started_twice c = by_hand_started_twice c.names_are_messages.ensures c.normal_terms_decide.ensures

pub returns-clause-equal : goal.returns-clause-equal
returns-clause-equal c = by_hand_equal c.names_are_messages.ensures c.normal_terms_decide.ensures

pub returns-clause-not_equal : goal.returns-clause-not_equal
returns-clause-not_equal c = by_hand_equal_false c.names_are_messages.ensures c.normal_terms_decide.ensures

pub returns-clause-different : goal.returns-clause-different
returns-clause-different c = by_hand_unequal c.names_are_messages.ensures c.normal_terms_decide.ensures

pub returns-clause-not_different : goal.returns-clause-not_different
returns-clause-not_different c = by_hand_unequal_false c.names_are_messages.ensures c.normal_terms_decide.ensures

pub returns-clause-stored : goal.returns-clause-stored
returns-clause-stored c = by_hand_found c.names_are_messages.ensures c.normal_terms_decide.ensures

pub returns-clause-deleted : goal.returns-clause-deleted
returns-clause-deleted c = by_hand_deleted_found c.names_are_messages.ensures c.normal_terms_decide.ensures

pub returns-clause-replaced : goal.returns-clause-replaced
returns-clause-replaced c = by_hand_replaced_found c.names_are_messages.ensures c.normal_terms_decide.ensures

pub returns-clause-stored_later : goal.returns-clause-stored_later
returns-clause-stored_later c = by_hand_found_before c.names_are_messages.ensures c.normal_terms_decide.ensures

pub returns-clause-missed : goal.returns-clause-missed
returns-clause-missed c = by_hand_missed c.names_are_messages.ensures c.normal_terms_decide.ensures

pub returns-clause-other_key : goal.returns-clause-other_key
returns-clause-other_key c = by_hand_other_missed c.names_are_messages.ensures c.normal_terms_decide.ensures

pub returns-clause-still_stored : goal.returns-clause-still_stored
returns-clause-still_stored c = by_hand_stored_missed c.names_are_messages.ensures c.normal_terms_decide.ensures

pub returns-clause-unlocked : goal.returns-clause-unlocked
returns-clause-unlocked c = by_hand_locked_again c.names_are_messages.ensures c.normal_terms_decide.ensures

pub returns-clause-other_lock : goal.returns-clause-other_lock
returns-clause-other_lock c = by_hand_locked_while_held c.names_are_messages.ensures c.normal_terms_decide.ensures

pub returns-clause-known : goal.returns-clause-known
returns-clause-known c = by_hand_known_input c.names_are_messages.ensures c.normal_terms_decide.ensures

pub returns-clause-unknown : goal.returns-clause-unknown
returns-clause-unknown c = by_hand_unknown_input c.names_are_messages.ensures c.normal_terms_decide.ensures

pub returns-clause-twice : goal.returns-clause-twice
returns-clause-twice c = by_hand_input_twice c.names_are_messages.ensures c.normal_terms_decide.ensures

pub returns-clause-after_event : goal.returns-clause-after_event
returns-clause-after_event c = by_hand_input_after_event c.names_are_messages.ensures c.normal_terms_decide.ensures

pub returns-clause-not_last : goal.returns-clause-not_last
returns-clause-not_last c = by_hand_input_not_last c.names_are_messages.ensures c.normal_terms_decide.ensures
