use Rattle.sap_lines.proofs.Answers.{one_answer}
use Rattle.sap_lines.proofs.OneCause.{refusals_are_one}
use Rattle.sap_lines.proofs.Outcomes.{line_outcomes}
use Rattle.sap_lines.proofs.laws.lines_have_one_answer.Goals as goal

pub returns-clause-outcome : goal.returns-clause-outcome
returns-clause-outcome c = line_outcomes (record {
  each = c.each_term_has_a_normal_form.ensures;
  one_form = c.normal_forms_are_unique.ensures;
  decide = c.normal_forms_decide.ensures;
  kept = c.equality_is_kept.ensures;
  leaves = c.leaves_are_normal.ensures;
  heads = c.destructors_head_left_sides.ensures;
  modulo = c.matching_is_modulo.ensures;
})

pub returns-clause-answer : goal.returns-clause-answer
returns-clause-answer c = one_answer (record {
  each = c.each_term_has_a_normal_form.ensures;
  one_form = c.normal_forms_are_unique.ensures;
  decide = c.normal_forms_decide.ensures;
  kept = c.equality_is_kept.ensures;
  leaves = c.leaves_are_normal.ensures;
  heads = c.destructors_head_left_sides.ensures;
  modulo = c.matching_is_modulo.ensures;
})

pub returns-clause-cause : goal.returns-clause-cause
returns-clause-cause c = refusals_are_one
