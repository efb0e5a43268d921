use Rattle.sap_translate.proofs.ByHand.OwnedNames.{run_to_owned, not_owned, other_is_made}
use Rattle.sap_translate.proofs.names_by_hand.owned_names_by_hand.Goals as goal

pub returns-clause-owned : goal.returns-clause-owned
returns-clause-owned c = run_to_owned (record {
  leaves = c.leaves_are_normal.ensures;
  has_form = c.each_term_has_a_normal_form.ensures;
  one_form = c.normal_forms_are_unique.ensures;
  kept = c.equality_is_kept.ensures;
  messages = c.forms_are_messages.ensures;
  unchanged = c.instances_of_processes.ensures.unchanged;
  twice = c.instances_of_processes.ensures.twice;
  admitted = c.restrictions_say_sentences.ensures.admitted;
  needed = c.restrictions_say_sentences.ensures.needed;
  needs = c.restrictions_say_sentences.ensures.needs;
})

pub returns-clause-not_made : goal.returns-clause-not_made
returns-clause-not_made c = not_owned

pub returns-clause-other_made : goal.returns-clause-other_made
returns-clause-other_made c = other_is_made (record {
  leaves = c.leaves_are_normal.ensures;
  has_form = c.each_term_has_a_normal_form.ensures;
  one_form = c.normal_forms_are_unique.ensures;
  kept = c.equality_is_kept.ensures;
  messages = c.forms_are_messages.ensures;
  unchanged = c.instances_of_processes.ensures.unchanged;
  twice = c.instances_of_processes.ensures.twice;
  admitted = c.restrictions_say_sentences.ensures.admitted;
  needed = c.restrictions_say_sentences.ensures.needed;
  needs = c.restrictions_say_sentences.ensures.needs;
})
