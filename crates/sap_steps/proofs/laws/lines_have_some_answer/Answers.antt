use Rattle.sap_steps.proofs.SomeAnswer.{lines_have_some_answer, reached_some_answer}
use Rattle.sap_steps.proofs.laws.lines_have_some_answer.Goals as goal

pub returns-clause-held : goal.returns-clause-held
returns-clause-held c = lines_have_some_answer (record {
  each = c.each_term_has_a_normal_form.ensures;
  one_form = c.normal_forms_are_unique.ensures;
  decide = c.normal_forms_decide.ensures;
  around = c.matching_around_is_modulo.ensures;
  gives = c.fitting_gives_messages.ensures;
  taken = c.taken_facts_are_messages.ensures;
  names = c.names_are_messages.ensures;
})

pub returns-clause-reached : goal.returns-clause-reached
returns-clause-reached c = reached_some_answer (record {
  each = c.each_term_has_a_normal_form.ensures;
  one_form = c.normal_forms_are_unique.ensures;
  decide = c.normal_forms_decide.ensures;
  around = c.matching_around_is_modulo.ensures;
  gives = c.fitting_gives_messages.ensures;
  taken = c.taken_facts_are_messages.ensures;
  names = c.names_are_messages.ensures;
}) c.runs_reach_messages.ensures
