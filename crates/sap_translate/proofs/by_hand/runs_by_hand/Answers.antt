use Rattle.sap_translate.proofs.ByHand.Channels.{lock_taken, lock_taken_rules, senders_meet, senders_meet_rules}
use Rattle.sap_translate.proofs.ByHand.Lacks.{never_no, never_no_rules}
use Rattle.sap_translate.proofs.ByHand.Pairs.{no_match, twins_taken, twins_taken_rules}
use Rattle.sap_translate.proofs.ByHand.Traces.{twice_copied, twice_copied_rules, not_found, not_found_rules, inputs_taken, inputs_taken_rules}
use Rattle.sap_translate.proofs.ByHand.Unserved.{not_served}
use Rattle.sap_translate.proofs.by_hand.runs_by_hand.Goals as goal

pub returns-clause-copied : goal.returns-clause-copied
returns-clause-copied c = twice_copied

pub returns-clause-other : goal.returns-clause-other
returns-clause-other c = never_no

pub returns-clause-copied_rules : goal.returns-clause-copied_rules
returns-clause-copied_rules c = twice_copied_rules (record {
  leaves = c.leaves_are_normal.ensures;
  has_form = c.each_term_has_a_normal_form.ensures;
  one_form = c.normal_forms_are_unique.ensures;
  kept = c.equality_is_kept.ensures;
  messages = c.forms_are_messages.ensures;
  unchanged = c.instances_of_processes.ensures.unchanged;
  twice = c.instances_of_processes.ensures.twice;
  admitted = c.restrictions_say_sentences.ensures.admitted;
  needed = c.restrictions_say_sentences.ensures.needed;
  needs = c.restrictions_say_sentences.ensures.needs;
})

pub returns-clause-other_rules : goal.returns-clause-other_rules
returns-clause-other_rules c = never_no_rules (record {
  leaves = c.leaves_are_normal.ensures;
  has_form = c.each_term_has_a_normal_form.ensures;
  one_form = c.normal_forms_are_unique.ensures;
  kept = c.equality_is_kept.ensures;
  messages = c.forms_are_messages.ensures;
  unchanged = c.instances_of_processes.ensures.unchanged;
  twice = c.instances_of_processes.ensures.twice;
  admitted = c.restrictions_say_sentences.ensures.admitted;
  needed = c.restrictions_say_sentences.ensures.needed;
  needs = c.restrictions_say_sentences.ensures.needs;
})

pub returns-clause-deleted : goal.returns-clause-deleted
returns-clause-deleted c = not_found (record {
  leaves = c.leaves_are_normal.ensures;
  has_form = c.each_term_has_a_normal_form.ensures;
  one_form = c.normal_forms_are_unique.ensures;
  kept = c.equality_is_kept.ensures;
  messages = c.forms_are_messages.ensures;
  unchanged = c.instances_of_processes.ensures.unchanged;
  twice = c.instances_of_processes.ensures.twice;
  admitted = c.restrictions_say_sentences.ensures.admitted;
  needed = c.restrictions_say_sentences.ensures.needed;
  needs = c.restrictions_say_sentences.ensures.needs;
})

pub returns-clause-deleted_rules : goal.returns-clause-deleted_rules
returns-clause-deleted_rules c = not_found_rules (record {
  leaves = c.leaves_are_normal.ensures;
  has_form = c.each_term_has_a_normal_form.ensures;
  one_form = c.normal_forms_are_unique.ensures;
  kept = c.equality_is_kept.ensures;
  messages = c.forms_are_messages.ensures;
  unchanged = c.instances_of_processes.ensures.unchanged;
  twice = c.instances_of_processes.ensures.twice;
  admitted = c.restrictions_say_sentences.ensures.admitted;
  needed = c.restrictions_say_sentences.ensures.needed;
  needs = c.restrictions_say_sentences.ensures.needs;
})

pub returns-clause-inputs : goal.returns-clause-inputs
returns-clause-inputs c = inputs_taken (record {
  leaves = c.leaves_are_normal.ensures;
  has_form = c.each_term_has_a_normal_form.ensures;
  one_form = c.normal_forms_are_unique.ensures;
  kept = c.equality_is_kept.ensures;
  messages = c.forms_are_messages.ensures;
  unchanged = c.instances_of_processes.ensures.unchanged;
  twice = c.instances_of_processes.ensures.twice;
  admitted = c.restrictions_say_sentences.ensures.admitted;
  needed = c.restrictions_say_sentences.ensures.needed;
  needs = c.restrictions_say_sentences.ensures.needs;
})

pub returns-clause-inputs_rules : goal.returns-clause-inputs_rules
returns-clause-inputs_rules c = inputs_taken_rules (record {
  leaves = c.leaves_are_normal.ensures;
  has_form = c.each_term_has_a_normal_form.ensures;
  one_form = c.normal_forms_are_unique.ensures;
  kept = c.equality_is_kept.ensures;
  messages = c.forms_are_messages.ensures;
  unchanged = c.instances_of_processes.ensures.unchanged;
  twice = c.instances_of_processes.ensures.twice;
  admitted = c.restrictions_say_sentences.ensures.admitted;
  needed = c.restrictions_say_sentences.ensures.needed;
  needs = c.restrictions_say_sentences.ensures.needs;
})

pub returns-clause-unserved : goal.returns-clause-unserved
returns-clause-unserved c = not_served (record {
  leaves = c.leaves_are_normal.ensures;
  has_form = c.each_term_has_a_normal_form.ensures;
  one_form = c.normal_forms_are_unique.ensures;
  kept = c.equality_is_kept.ensures;
  messages = c.forms_are_messages.ensures;
  unchanged = c.instances_of_processes.ensures.unchanged;
  twice = c.instances_of_processes.ensures.twice;
  admitted = c.restrictions_say_sentences.ensures.admitted;
  needed = c.restrictions_say_sentences.ensures.needed;
  needs = c.restrictions_say_sentences.ensures.needs;
})

pub returns-clause-locked : goal.returns-clause-locked
returns-clause-locked c = lock_taken (record {
  leaves = c.leaves_are_normal.ensures;
  has_form = c.each_term_has_a_normal_form.ensures;
  one_form = c.normal_forms_are_unique.ensures;
  kept = c.equality_is_kept.ensures;
  messages = c.forms_are_messages.ensures;
  unchanged = c.instances_of_processes.ensures.unchanged;
  twice = c.instances_of_processes.ensures.twice;
  admitted = c.restrictions_say_sentences.ensures.admitted;
  needed = c.restrictions_say_sentences.ensures.needed;
  needs = c.restrictions_say_sentences.ensures.needs;
})

pub returns-clause-locked_rules : goal.returns-clause-locked_rules
returns-clause-locked_rules c = lock_taken_rules (record {
  leaves = c.leaves_are_normal.ensures;
  has_form = c.each_term_has_a_normal_form.ensures;
  one_form = c.normal_forms_are_unique.ensures;
  kept = c.equality_is_kept.ensures;
  messages = c.forms_are_messages.ensures;
  unchanged = c.instances_of_processes.ensures.unchanged;
  twice = c.instances_of_processes.ensures.twice;
  admitted = c.restrictions_say_sentences.ensures.admitted;
  needed = c.restrictions_say_sentences.ensures.needed;
  needs = c.restrictions_say_sentences.ensures.needs;
})

pub returns-clause-met : goal.returns-clause-met
returns-clause-met c = senders_meet (record {
  leaves = c.leaves_are_normal.ensures;
  has_form = c.each_term_has_a_normal_form.ensures;
  one_form = c.normal_forms_are_unique.ensures;
  kept = c.equality_is_kept.ensures;
  messages = c.forms_are_messages.ensures;
  unchanged = c.instances_of_processes.ensures.unchanged;
  twice = c.instances_of_processes.ensures.twice;
  admitted = c.restrictions_say_sentences.ensures.admitted;
  needed = c.restrictions_say_sentences.ensures.needed;
  needs = c.restrictions_say_sentences.ensures.needs;
})

pub returns-clause-met_rules : goal.returns-clause-met_rules
returns-clause-met_rules c = senders_meet_rules (record {
  leaves = c.leaves_are_normal.ensures;
  has_form = c.each_term_has_a_normal_form.ensures;
  one_form = c.normal_forms_are_unique.ensures;
  kept = c.equality_is_kept.ensures;
  messages = c.forms_are_messages.ensures;
  unchanged = c.instances_of_processes.ensures.unchanged;
  twice = c.instances_of_processes.ensures.twice;
  admitted = c.restrictions_say_sentences.ensures.admitted;
  needed = c.restrictions_say_sentences.ensures.needed;
  needs = c.restrictions_say_sentences.ensures.needs;
})

pub returns-clause-twins : goal.returns-clause-twins
returns-clause-twins c = twins_taken (record {
  leaves = c.leaves_are_normal.ensures;
  has_form = c.each_term_has_a_normal_form.ensures;
  one_form = c.normal_forms_are_unique.ensures;
  kept = c.equality_is_kept.ensures;
  messages = c.forms_are_messages.ensures;
  unchanged = c.instances_of_processes.ensures.unchanged;
  twice = c.instances_of_processes.ensures.twice;
  admitted = c.restrictions_say_sentences.ensures.admitted;
  needed = c.restrictions_say_sentences.ensures.needed;
  needs = c.restrictions_say_sentences.ensures.needs;
})

pub returns-clause-twins_rules : goal.returns-clause-twins_rules
returns-clause-twins_rules c = twins_taken_rules (record {
  leaves = c.leaves_are_normal.ensures;
  has_form = c.each_term_has_a_normal_form.ensures;
  one_form = c.normal_forms_are_unique.ensures;
  kept = c.equality_is_kept.ensures;
  messages = c.forms_are_messages.ensures;
  unchanged = c.instances_of_processes.ensures.unchanged;
  twice = c.instances_of_processes.ensures.twice;
  admitted = c.restrictions_say_sentences.ensures.admitted;
  needed = c.restrictions_say_sentences.ensures.needed;
  needs = c.restrictions_say_sentences.ensures.needs;
})

pub returns-clause-unmatched : goal.returns-clause-unmatched
returns-clause-unmatched c = no_match (record {
  leaves = c.leaves_are_normal.ensures;
  has_form = c.each_term_has_a_normal_form.ensures;
  one_form = c.normal_forms_are_unique.ensures;
  kept = c.equality_is_kept.ensures;
  messages = c.forms_are_messages.ensures;
  unchanged = c.instances_of_processes.ensures.unchanged;
  twice = c.instances_of_processes.ensures.twice;
  admitted = c.restrictions_say_sentences.ensures.admitted;
  needed = c.restrictions_say_sentences.ensures.needed;
  needs = c.restrictions_say_sentences.ensures.needs;
})
