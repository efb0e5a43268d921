use Rattle.std.proofs.Common.{refl}
use Rattle.sap_where.proofs.OtherByHand.{clashes_there, first_f, first_h, first_lemma, first_taken, first_x, its_builtin, names_there, no_word_of_pairs, none_twice, not_f_again, not_f_otherwise, not_its_function, not_of_another, not_of_h, not_the_builtin, not_the_lemma, not_the_restriction, not_the_second_let, not_the_second_x, not_the_third_x, processes_there, repeated_there}
use Rattle.sap_where.proofs.laws.other_places_by_hand.Goals as goal

pub returns : goal.returns
returns c = record {
  names = (first_taken, not_the_lemma, not_the_second_let, first_lemma, not_the_restriction, none_twice);
  parameters = (first_x, not_of_another, not_the_second_x, not_the_third_x);
  declarations = (first_h, not_the_builtin, first_f, not_of_h, not_f_again, not_f_otherwise, its_builtin, not_its_function, no_word_of_pairs);
  builtins = (refl, refl, refl, refl, refl, refl, refl, refl, refl, refl);
  stretches = names_there c.one_other_stretch.ensures;
  processes = processes_there c.one_other_stretch.ensures;
  clashes = clashes_there c.one_other_stretch.ensures;
  repeated = repeated_there c.one_other_stretch.ensures;
}
