use Rattle.sap_teller.proofs.found_out.laws_below.Goals as goal

pub returns : goal.returns
returns c = record {
  each = c.each_term_has_a_normal_form.ensures;
  one = c.normal_forms_are_unique.ensures;
  kept = c.equality_is_kept.ensures;
  leaves = c.leaves_are_normal.ensures;
  heads = c.destructors_head_left_sides.ensures;
  modulo = c.matching_is_modulo.ensures;
  answer = c.lines_have_one_answer.ensures.answer;
}
