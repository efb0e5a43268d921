use Rattle.sap_translate.proofs.Restricted.Suffices.{needed_as_all}
use Rattle.sap_translate.proofs.laws.needed_restrictions_suffice.Goals as goal

pub returns : goal.returns
returns c = needed_as_all (record {
  leaves = c.leaves_are_normal.ensures;
  has_form = c.each_term_has_a_normal_form.ensures;
  one_form = c.normal_forms_are_unique.ensures;
  kept = c.equality_is_kept.ensures;
  messages = c.forms_are_messages.ensures;
  unchanged = c.instances_of_processes.ensures.unchanged;
  twice = c.instances_of_processes.ensures.twice;
  admitted = c.restrictions_say_sentences.ensures.admitted;
  needed = c.restrictions_say_sentences.ensures.needed;
  needs = c.restrictions_say_sentences.ensures.needs;
})
