use Rattle.sap_translate.proofs.ByHand.Parts.{rules_show, rules_show_only, sound_by_parts, starting}
use Rattle.sap_translate.proofs.Premises.LowerLaws.{Laws}
use Rattle.sap_translate.proofs.Restricted.Seen.{full_messages, ready_over}
use Rattle.sap_translate.proofs.Restricted.Suffices.{needed_over}
use Rattle.sap_translate.proofs.laws.sound_processes_are_shown.Goals as goal

pub returns : goal.returns
returns c =
    let laws : Laws = record {
      leaves = c.leaves_are_normal.ensures;
      has_form = c.each_term_has_a_normal_form.ensures;
      one_form = c.normal_forms_are_unique.ensures;
      kept = c.equality_is_kept.ensures;
      messages = c.forms_are_messages.ensures;
      unchanged = c.instances_of_processes.ensures.unchanged;
      twice = c.instances_of_processes.ensures.twice;
      admitted = c.restrictions_say_sentences.ensures.admitted;
      needed = c.restrictions_say_sentences.ensures.needed;
      needs = c.restrictions_say_sentences.ensures.needs;
    } in
    record {
      parts = sound_by_parts;
      over = ready_over;
      all = rules_show laws;
      only = rules_show_only laws;
      messages = full_messages laws;
      needed = needed_over laws;
      starts = starting laws;
    }
