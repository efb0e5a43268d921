use Rattle.sap_translate.proofs.Restricted.Seen.{ready_sound, all_seen, only_seen}
use Rattle.sap_translate.proofs.laws.rules_show_the_process.Goals as goal

pub returns-clause-sound : goal.returns-clause-sound
returns-clause-sound c = ready_sound

pub returns-clause-all : goal.returns-clause-all
returns-clause-all c = all_seen (record {
  leaves = c.leaves_are_normal.ensures;
  has_form = c.each_term_has_a_normal_form.ensures;
  one_form = c.normal_forms_are_unique.ensures;
  kept = c.equality_is_kept.ensures;
  messages = c.forms_are_messages.ensures;
  unchanged = c.instances_of_processes.ensures.unchanged;
  twice = c.instances_of_processes.ensures.twice;
  admitted = c.restrictions_say_sentences.ensures.admitted;
  needed = c.restrictions_say_sentences.ensures.needed;
  needs = c.restrictions_say_sentences.ensures.needs;
})

pub returns-clause-only : goal.returns-clause-only
returns-clause-only c = only_seen (record {
  leaves = c.leaves_are_normal.ensures;
  has_form = c.each_term_has_a_normal_form.ensures;
  one_form = c.normal_forms_are_unique.ensures;
  kept = c.equality_is_kept.ensures;
  messages = c.forms_are_messages.ensures;
  unchanged = c.instances_of_processes.ensures.unchanged;
  twice = c.instances_of_processes.ensures.twice;
  admitted = c.restrictions_say_sentences.ensures.admitted;
  needed = c.restrictions_say_sentences.ensures.needed;
  needs = c.restrictions_say_sentences.ensures.needs;
})
