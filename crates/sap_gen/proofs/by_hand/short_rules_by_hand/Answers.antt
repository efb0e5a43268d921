use Rattle.sap_gen.proofs.ShortByHand as hand
use Rattle.sap_gen.proofs.by_hand.short_rules_by_hand.Goals as goal

pub returns : goal.returns
returns c = record {
  ended = hand.ended c.sound_processes_are_shown.ensures.parts c.rules_are_found_by_name.ensures.origin c.rules_are_found_by_name.ensures.placed;
  told = hand.told c.sound_processes_are_shown.ensures.parts c.rules_are_found_by_name.ensures.origin c.rules_are_found_by_name.ensures.placed;
  told_first = hand.told_first c.sound_processes_are_shown.ensures.parts c.rules_are_found_by_name.ensures.origin c.rules_are_found_by_name.ensures.placed;
  copied = hand.copied c.sound_processes_are_shown.ensures.parts c.rules_are_found_by_name.ensures.origin c.rules_are_found_by_name.ensures.placed;
  twice = hand.twice c.sound_processes_are_shown.ensures.parts c.rules_are_found_by_name.ensures.origin c.rules_are_found_by_name.ensures.placed;
  in_order = hand.in_order c.sound_processes_are_shown.ensures.parts c.rules_are_found_by_name.ensures.origin c.rules_are_found_by_name.ensures.placed;
  two_events = hand.two_events c.sound_processes_are_shown.ensures.parts c.rules_are_found_by_name.ensures.origin c.rules_are_found_by_name.ensures.placed;
  idle_rule = hand.idle_rule c.sound_processes_are_shown.ensures.parts c.rules_are_found_by_name.ensures.origin c.rules_are_found_by_name.ensures.placed;
  adding_rule = hand.adding_rule c.sound_processes_are_shown.ensures.parts c.rules_are_found_by_name.ensures.origin c.rules_are_found_by_name.ensures.placed;
  two_names = hand.two_names c.sound_processes_are_shown.ensures.parts c.rules_are_found_by_name.ensures.origin c.rules_are_found_by_name.ensures.placed;
  channel = hand.channel c.sound_processes_are_shown.ensures.parts c.rules_are_found_by_name.ensures.origin c.rules_are_found_by_name.ensures.placed;
  tested = hand.tested c.sound_processes_are_shown.ensures.parts c.rules_are_found_by_name.ensures.origin c.rules_are_found_by_name.ensures.placed;
  looked_up = hand.looked_up c.sound_processes_are_shown.ensures.parts c.rules_are_found_by_name.ensures.origin c.rules_are_found_by_name.ensures.placed;
  locked = hand.locked c.sound_processes_are_shown.ensures.parts c.rules_are_found_by_name.ensures.origin c.rules_are_found_by_name.ensures.placed;
  ended_kept = hand.ended_kept c.sound_processes_are_shown.ensures.parts c.rules_are_found_by_name.ensures.origin c.rules_are_found_by_name.ensures.placed;
  told_as_it_was = hand.told_as_it_was c.sound_processes_are_shown.ensures.parts c.rules_are_found_by_name.ensures.origin c.rules_are_found_by_name.ensures.placed;
  told_one_step = hand.told_one_step c.sound_processes_are_shown.ensures.parts c.rules_are_found_by_name.ensures.origin c.rules_are_found_by_name.ensures.placed;
  told_kept = hand.told_kept c.sound_processes_are_shown.ensures.parts c.rules_are_found_by_name.ensures.origin c.rules_are_found_by_name.ensures.placed;
  told_left_out = hand.told_left_out c.sound_processes_are_shown.ensures.parts c.rules_are_found_by_name.ensures.origin c.rules_are_found_by_name.ensures.placed;
  told_first_dropped = hand.told_first_dropped c.sound_processes_are_shown.ensures.parts c.rules_are_found_by_name.ensures.origin c.rules_are_found_by_name.ensures.placed;
  copied_once = hand.copied_once c.sound_processes_are_shown.ensures.parts c.rules_are_found_by_name.ensures.origin c.rules_are_found_by_name.ensures.placed;
  copied_linear = hand.copied_linear c.sound_processes_are_shown.ensures.parts c.rules_are_found_by_name.ensures.origin c.rules_are_found_by_name.ensures.placed;
  out_of_order = hand.out_of_order c.sound_processes_are_shown.ensures.parts c.rules_are_found_by_name.ensures.origin c.rules_are_found_by_name.ensures.placed;
  first_alone = hand.first_alone c.sound_processes_are_shown.ensures.parts c.rules_are_found_by_name.ensures.origin c.rules_are_found_by_name.ensures.placed;
  events_at_once = hand.events_at_once c.sound_processes_are_shown.ensures.parts c.rules_are_found_by_name.ensures.origin c.rules_are_found_by_name.ensures.placed;
  idle_rule_gone = hand.idle_rule_gone c.sound_processes_are_shown.ensures.parts c.rules_are_found_by_name.ensures.origin c.rules_are_found_by_name.ensures.placed;
  adding_rule_last = hand.adding_rule_last c.sound_processes_are_shown.ensures.parts c.rules_are_found_by_name.ensures.origin c.rules_are_found_by_name.ensures.placed;
}
