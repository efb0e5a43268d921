use Rattle.sap_translate.proofs.ByHand.Channels.{lock_taken_twice, lock_taken_twice_rules, other_meets, other_meets_rules}
use Rattle.sap_translate.proofs.ByHand.Lacking.Channels.{never_both, never_both_rules}
use Rattle.sap_translate.proofs.ByHand.Lacking.Inputs.{never_served_once, never_served_once_rules}
use Rattle.sap_translate.proofs.ByHand.Lacking.Locks.{never_locked_again, never_locked_again_rules}
use Rattle.sap_translate.proofs.ByHand.Lacking.Pairs.{never_unequal, never_unequal_rules}
use Rattle.sap_translate.proofs.ByHand.Lacking.Values.{never_found, never_found_rules}
use Rattle.sap_translate.proofs.ByHand.Lacks.{never_later, never_later_rules, twins_known_alone, twins_known_alone_rules, locks_known_alone, locks_known_alone_rules}
use Rattle.sap_translate.proofs.ByHand.Pairs.{twins_shown, twins_shown_rules}
use Rattle.sap_translate.proofs.ByHand.Traces.{inputs_told, inputs_told_rules}
use Rattle.sap_translate.proofs.by_hand.traces_by_hand.Goals as goal

pub returns-clause-equal_parts : goal.returns-clause-equal_parts
returns-clause-equal_parts c = twins_shown (record {
  leaves = c.leaves_are_normal.ensures;
  has_form = c.each_term_has_a_normal_form.ensures;
  one_form = c.normal_forms_are_unique.ensures;
  kept = c.equality_is_kept.ensures;
  messages = c.forms_are_messages.ensures;
  unchanged = c.instances_of_processes.ensures.unchanged;
  twice = c.instances_of_processes.ensures.twice;
  admitted = c.restrictions_say_sentences.ensures.admitted;
  needed = c.restrictions_say_sentences.ensures.needed;
  needs = c.restrictions_say_sentences.ensures.needs;
})

pub returns-clause-equal_parts_rules : goal.returns-clause-equal_parts_rules
returns-clause-equal_parts_rules c = twins_shown_rules (record {
  leaves = c.leaves_are_normal.ensures;
  has_form = c.each_term_has_a_normal_form.ensures;
  one_form = c.normal_forms_are_unique.ensures;
  kept = c.equality_is_kept.ensures;
  messages = c.forms_are_messages.ensures;
  unchanged = c.instances_of_processes.ensures.unchanged;
  twice = c.instances_of_processes.ensures.twice;
  admitted = c.restrictions_say_sentences.ensures.admitted;
  needed = c.restrictions_say_sentences.ensures.needed;
  needs = c.restrictions_say_sentences.ensures.needs;
})

pub returns-clause-unequal_parts : goal.returns-clause-unequal_parts
returns-clause-unequal_parts c = never_unequal (record {
  leaves = c.leaves_are_normal.ensures;
  has_form = c.each_term_has_a_normal_form.ensures;
  one_form = c.normal_forms_are_unique.ensures;
  kept = c.equality_is_kept.ensures;
  messages = c.forms_are_messages.ensures;
  unchanged = c.instances_of_processes.ensures.unchanged;
  twice = c.instances_of_processes.ensures.twice;
  admitted = c.restrictions_say_sentences.ensures.admitted;
  needed = c.restrictions_say_sentences.ensures.needed;
  needs = c.restrictions_say_sentences.ensures.needs;
})

pub returns-clause-unequal_parts_rules : goal.returns-clause-unequal_parts_rules
returns-clause-unequal_parts_rules c = never_unequal_rules (record {
  leaves = c.leaves_are_normal.ensures;
  has_form = c.each_term_has_a_normal_form.ensures;
  one_form = c.normal_forms_are_unique.ensures;
  kept = c.equality_is_kept.ensures;
  messages = c.forms_are_messages.ensures;
  unchanged = c.instances_of_processes.ensures.unchanged;
  twice = c.instances_of_processes.ensures.twice;
  admitted = c.restrictions_say_sentences.ensures.admitted;
  needed = c.restrictions_say_sentences.ensures.needed;
  needs = c.restrictions_say_sentences.ensures.needs;
})

pub returns-clause-deleted_value : goal.returns-clause-deleted_value
returns-clause-deleted_value c = never_found (record {
  leaves = c.leaves_are_normal.ensures;
  has_form = c.each_term_has_a_normal_form.ensures;
  one_form = c.normal_forms_are_unique.ensures;
  kept = c.equality_is_kept.ensures;
  messages = c.forms_are_messages.ensures;
  unchanged = c.instances_of_processes.ensures.unchanged;
  twice = c.instances_of_processes.ensures.twice;
  admitted = c.restrictions_say_sentences.ensures.admitted;
  needed = c.restrictions_say_sentences.ensures.needed;
  needs = c.restrictions_say_sentences.ensures.needs;
})

pub returns-clause-deleted_value_rules : goal.returns-clause-deleted_value_rules
returns-clause-deleted_value_rules c = never_found_rules (record {
  leaves = c.leaves_are_normal.ensures;
  has_form = c.each_term_has_a_normal_form.ensures;
  one_form = c.normal_forms_are_unique.ensures;
  kept = c.equality_is_kept.ensures;
  messages = c.forms_are_messages.ensures;
  unchanged = c.instances_of_processes.ensures.unchanged;
  twice = c.instances_of_processes.ensures.twice;
  admitted = c.restrictions_say_sentences.ensures.admitted;
  needed = c.restrictions_say_sentences.ensures.needed;
  needs = c.restrictions_say_sentences.ensures.needs;
})

pub returns-clause-unlocked : goal.returns-clause-unlocked
returns-clause-unlocked c = lock_taken_twice (record {
  leaves = c.leaves_are_normal.ensures;
  has_form = c.each_term_has_a_normal_form.ensures;
  one_form = c.normal_forms_are_unique.ensures;
  kept = c.equality_is_kept.ensures;
  messages = c.forms_are_messages.ensures;
  unchanged = c.instances_of_processes.ensures.unchanged;
  twice = c.instances_of_processes.ensures.twice;
  admitted = c.restrictions_say_sentences.ensures.admitted;
  needed = c.restrictions_say_sentences.ensures.needed;
  needs = c.restrictions_say_sentences.ensures.needs;
})

pub returns-clause-unlocked_rules : goal.returns-clause-unlocked_rules
returns-clause-unlocked_rules c = lock_taken_twice_rules (record {
  leaves = c.leaves_are_normal.ensures;
  has_form = c.each_term_has_a_normal_form.ensures;
  one_form = c.normal_forms_are_unique.ensures;
  kept = c.equality_is_kept.ensures;
  messages = c.forms_are_messages.ensures;
  unchanged = c.instances_of_processes.ensures.unchanged;
  twice = c.instances_of_processes.ensures.twice;
  admitted = c.restrictions_say_sentences.ensures.admitted;
  needed = c.restrictions_say_sentences.ensures.needed;
  needs = c.restrictions_say_sentences.ensures.needs;
})

pub returns-clause-still_locked : goal.returns-clause-still_locked
returns-clause-still_locked c = never_locked_again (record {
  leaves = c.leaves_are_normal.ensures;
  has_form = c.each_term_has_a_normal_form.ensures;
  one_form = c.normal_forms_are_unique.ensures;
  kept = c.equality_is_kept.ensures;
  messages = c.forms_are_messages.ensures;
  unchanged = c.instances_of_processes.ensures.unchanged;
  twice = c.instances_of_processes.ensures.twice;
  admitted = c.restrictions_say_sentences.ensures.admitted;
  needed = c.restrictions_say_sentences.ensures.needed;
  needs = c.restrictions_say_sentences.ensures.needs;
})

pub returns-clause-still_locked_rules : goal.returns-clause-still_locked_rules
returns-clause-still_locked_rules c = never_locked_again_rules (record {
  leaves = c.leaves_are_normal.ensures;
  has_form = c.each_term_has_a_normal_form.ensures;
  one_form = c.normal_forms_are_unique.ensures;
  kept = c.equality_is_kept.ensures;
  messages = c.forms_are_messages.ensures;
  unchanged = c.instances_of_processes.ensures.unchanged;
  twice = c.instances_of_processes.ensures.twice;
  admitted = c.restrictions_say_sentences.ensures.admitted;
  needed = c.restrictions_say_sentences.ensures.needed;
  needs = c.restrictions_say_sentences.ensures.needs;
})

pub returns-clause-acknowledged : goal.returns-clause-acknowledged
returns-clause-acknowledged c = other_meets (record {
  leaves = c.leaves_are_normal.ensures;
  has_form = c.each_term_has_a_normal_form.ensures;
  one_form = c.normal_forms_are_unique.ensures;
  kept = c.equality_is_kept.ensures;
  messages = c.forms_are_messages.ensures;
  unchanged = c.instances_of_processes.ensures.unchanged;
  twice = c.instances_of_processes.ensures.twice;
  admitted = c.restrictions_say_sentences.ensures.admitted;
  needed = c.restrictions_say_sentences.ensures.needed;
  needs = c.restrictions_say_sentences.ensures.needs;
})

pub returns-clause-acknowledged_rules : goal.returns-clause-acknowledged_rules
returns-clause-acknowledged_rules c = other_meets_rules (record {
  leaves = c.leaves_are_normal.ensures;
  has_form = c.each_term_has_a_normal_form.ensures;
  one_form = c.normal_forms_are_unique.ensures;
  kept = c.equality_is_kept.ensures;
  messages = c.forms_are_messages.ensures;
  unchanged = c.instances_of_processes.ensures.unchanged;
  twice = c.instances_of_processes.ensures.twice;
  admitted = c.restrictions_say_sentences.ensures.admitted;
  needed = c.restrictions_say_sentences.ensures.needed;
  needs = c.restrictions_say_sentences.ensures.needs;
})

pub returns-clause-other_acknowledged : goal.returns-clause-other_acknowledged
returns-clause-other_acknowledged c = never_both

pub returns-clause-other_acknowledged_rules : goal.returns-clause-other_acknowledged_rules
returns-clause-other_acknowledged_rules c = never_both_rules (record {
  leaves = c.leaves_are_normal.ensures;
  has_form = c.each_term_has_a_normal_form.ensures;
  one_form = c.normal_forms_are_unique.ensures;
  kept = c.equality_is_kept.ensures;
  messages = c.forms_are_messages.ensures;
  unchanged = c.instances_of_processes.ensures.unchanged;
  twice = c.instances_of_processes.ensures.twice;
  admitted = c.restrictions_say_sentences.ensures.admitted;
  needed = c.restrictions_say_sentences.ensures.needed;
  needs = c.restrictions_say_sentences.ensures.needs;
})

pub returns-clause-shown_twice : goal.returns-clause-shown_twice
returns-clause-shown_twice c = inputs_told (record {
  leaves = c.leaves_are_normal.ensures;
  has_form = c.each_term_has_a_normal_form.ensures;
  one_form = c.normal_forms_are_unique.ensures;
  kept = c.equality_is_kept.ensures;
  messages = c.forms_are_messages.ensures;
  unchanged = c.instances_of_processes.ensures.unchanged;
  twice = c.instances_of_processes.ensures.twice;
  admitted = c.restrictions_say_sentences.ensures.admitted;
  needed = c.restrictions_say_sentences.ensures.needed;
  needs = c.restrictions_say_sentences.ensures.needs;
})

pub returns-clause-shown_twice_rules : goal.returns-clause-shown_twice_rules
returns-clause-shown_twice_rules c = inputs_told_rules (record {
  leaves = c.leaves_are_normal.ensures;
  has_form = c.each_term_has_a_normal_form.ensures;
  one_form = c.normal_forms_are_unique.ensures;
  kept = c.equality_is_kept.ensures;
  messages = c.forms_are_messages.ensures;
  unchanged = c.instances_of_processes.ensures.unchanged;
  twice = c.instances_of_processes.ensures.twice;
  admitted = c.restrictions_say_sentences.ensures.admitted;
  needed = c.restrictions_say_sentences.ensures.needed;
  needs = c.restrictions_say_sentences.ensures.needs;
})

pub returns-clause-shown_once : goal.returns-clause-shown_once
returns-clause-shown_once c = never_served_once

pub returns-clause-shown_once_rules : goal.returns-clause-shown_once_rules
returns-clause-shown_once_rules c = never_served_once_rules (record {
  leaves = c.leaves_are_normal.ensures;
  has_form = c.each_term_has_a_normal_form.ensures;
  one_form = c.normal_forms_are_unique.ensures;
  kept = c.equality_is_kept.ensures;
  messages = c.forms_are_messages.ensures;
  unchanged = c.instances_of_processes.ensures.unchanged;
  twice = c.instances_of_processes.ensures.twice;
  admitted = c.restrictions_say_sentences.ensures.admitted;
  needed = c.restrictions_say_sentences.ensures.needed;
  needs = c.restrictions_say_sentences.ensures.needs;
})

pub returns-clause-copied_other : goal.returns-clause-copied_other
returns-clause-copied_other c = never_later

pub returns-clause-copied_other_rules : goal.returns-clause-copied_other_rules
returns-clause-copied_other_rules c = never_later_rules (record {
  leaves = c.leaves_are_normal.ensures;
  has_form = c.each_term_has_a_normal_form.ensures;
  one_form = c.normal_forms_are_unique.ensures;
  kept = c.equality_is_kept.ensures;
  messages = c.forms_are_messages.ensures;
  unchanged = c.instances_of_processes.ensures.unchanged;
  twice = c.instances_of_processes.ensures.twice;
  admitted = c.restrictions_say_sentences.ensures.admitted;
  needed = c.restrictions_say_sentences.ensures.needed;
  needs = c.restrictions_say_sentences.ensures.needs;
})

pub returns-clause-pairs_alone : goal.returns-clause-pairs_alone
returns-clause-pairs_alone c = twins_known_alone

pub returns-clause-pairs_alone_rules : goal.returns-clause-pairs_alone_rules
returns-clause-pairs_alone_rules c = twins_known_alone_rules (record {
  leaves = c.leaves_are_normal.ensures;
  has_form = c.each_term_has_a_normal_form.ensures;
  one_form = c.normal_forms_are_unique.ensures;
  kept = c.equality_is_kept.ensures;
  messages = c.forms_are_messages.ensures;
  unchanged = c.instances_of_processes.ensures.unchanged;
  twice = c.instances_of_processes.ensures.twice;
  admitted = c.restrictions_say_sentences.ensures.admitted;
  needed = c.restrictions_say_sentences.ensures.needed;
  needs = c.restrictions_say_sentences.ensures.needs;
})

pub returns-clause-locks_alone : goal.returns-clause-locks_alone
returns-clause-locks_alone c = locks_known_alone

pub returns-clause-locks_alone_rules : goal.returns-clause-locks_alone_rules
returns-clause-locks_alone_rules c = locks_known_alone_rules (record {
  leaves = c.leaves_are_normal.ensures;
  has_form = c.each_term_has_a_normal_form.ensures;
  one_form = c.normal_forms_are_unique.ensures;
  kept = c.equality_is_kept.ensures;
  messages = c.forms_are_messages.ensures;
  unchanged = c.instances_of_processes.ensures.unchanged;
  twice = c.instances_of_processes.ensures.twice;
  admitted = c.restrictions_say_sentences.ensures.admitted;
  needed = c.restrictions_say_sentences.ensures.needed;
  needs = c.restrictions_say_sentences.ensures.needs;
})
