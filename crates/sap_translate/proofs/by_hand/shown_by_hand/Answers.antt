use Rattle.sap_translate.proofs.ByHand.Judged.{not_shown, not_shown_by_second, shown_at_rest, shown_twice}
use Rattle.sap_translate.proofs.by_hand.shown_by_hand.Goals as goal

pub returns-clause-shown : goal.returns-clause-shown
returns-clause-shown c = shown_twice (record {
  leaves = c.leaves_are_normal.ensures;
  has_form = c.each_term_has_a_normal_form.ensures;
  one_form = c.normal_forms_are_unique.ensures;
  kept = c.equality_is_kept.ensures;
  messages = c.forms_are_messages.ensures;
  unchanged = c.instances_of_processes.ensures.unchanged;
  twice = c.instances_of_processes.ensures.twice;
  admitted = c.restrictions_say_sentences.ensures.admitted;
  needed = c.restrictions_say_sentences.ensures.needed;
  needs = c.restrictions_say_sentences.ensures.needs;
})

pub returns-clause-unshown : goal.returns-clause-unshown
returns-clause-unshown c = not_shown

pub returns-clause-unshown_by_second : goal.returns-clause-unshown_by_second
returns-clause-unshown_by_second c = not_shown_by_second

pub returns-clause-shown_at_rest : goal.returns-clause-shown_at_rest
returns-clause-shown_at_rest c = shown_at_rest
