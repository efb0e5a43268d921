use Rattle.sap_expect.proofs.ItemsByHand.{another_attribute_wrong, another_builtin_wrong, another_privacy_wrong, arguments_file, arity_wrong, behind_nil_wrong, capital_symbol_wrong, comma_wrong, else_wrong, empty_use_wrong, endless_wrong, equivalence_wrong, last_comma_wrong, name_apart_wrong, no_binders_wrong, no_time_wrong, no_word_wrong, not_behind_the_comma, not_behind_the_end, not_the_first_else, not_the_first_parenthesis, not_the_parenthesis, one_else_file, one_inserted_wrong, one_part_wrong, persistent_act_wrong, reserved_name_wrong, signed_entry_wrong, small_event_wrong, three_terms_wrong, two_times_wrong, unclosed_wrong}
use Rattle.sap_expect.proofs.laws.items_by_hand.Goals as goal

pub returns : goal.returns
returns c = record {
  wrong = (unclosed_wrong, endless_wrong, comma_wrong, else_wrong, arity_wrong, equivalence_wrong, empty_use_wrong, name_apart_wrong, last_comma_wrong);
  wrong_words = (another_builtin_wrong, capital_symbol_wrong, another_privacy_wrong, small_event_wrong, reserved_name_wrong, three_terms_wrong, persistent_act_wrong, signed_entry_wrong, one_inserted_wrong, one_part_wrong, behind_nil_wrong, another_attribute_wrong, two_times_wrong, no_time_wrong, no_binders_wrong);
  not_there = (not_the_parenthesis, not_behind_the_comma, not_the_first_else, not_the_first_parenthesis, not_behind_the_end);
  right = (one_else_file, arguments_file, no_word_wrong);
}
