use Rattle.std.proofs.Common.{refl}
use Rattle.sap_notes.proofs.ByHand.{a_defined, a_not, b_not_defined, f_first, f_not_at_h, f_not_behind, f_not_defined, f_not_parameter, four_ascend, h_again, h_first, h_not_defined, h_not_first, not_itself, not_last_kind, not_later_kind, not_compared_first, not_later_word, nothing_told, private_not, two_kinds, two_told}
use Rattle.sap_notes.proofs.laws.notes_by_hand.Goals as goal

pub returns : goal.returns
returns c = record {
  declared = (h_first, f_first, h_again);
  not_declared = (h_not_first, f_not_at_h, private_not, a_not, f_not_parameter, f_not_behind);
  defined = a_defined;
  not_defined = (h_not_defined, f_not_defined, b_not_defined);
  actions = refl;
  forms = refl;
  formulas = refl;
  content = refl;
  order = four_ascend;
  two_kinds = (two_kinds, not_compared_first);
  not_order = (not_itself, not_later_kind, not_last_kind, not_later_word);
  told = two_told;
  not_told = nothing_told;
  sentences = (refl, refl);
  builtins = (refl, refl, refl, refl, refl, refl, refl);
}
