use Rattle.sap_lines.proofs.SomeAnswer.{lines_have_some_answer}
use Rattle.sap_lines.proofs.laws.lines_have_some_answer.Goals as goal

pub returns : goal.returns
returns c = lines_have_some_answer (record {
  each = c.each_term_has_a_normal_form.ensures;
  one_form = c.normal_forms_are_unique.ensures;
  decide = c.normal_forms_decide.ensures;
  kept = c.equality_is_kept.ensures;
  leaves = c.leaves_are_normal.ensures;
  heads = c.destructors_head_left_sides.ensures;
  modulo = c.matching_is_modulo.ensures;
}) c.names_are_messages.ensures
