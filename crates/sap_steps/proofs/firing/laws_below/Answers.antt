use Rattle.sap_steps.proofs.firing.laws_below.Goals as goal

pub returns : goal.returns
returns c = record {
  modulo = c.matching_around_is_modulo.ensures;
  messages = c.fitting_gives_messages.ensures;
  once = c.variables_named_once_stay_so.ensures;
  choices = c.bindings_give_choices.ensures;
  substitutes = c.agreeing_choices_substitute.ensures;
  one_form = c.normal_forms_are_unique.ensures;
  forms = c.forms_are_messages.ensures;
  plain = c.plain_facts_are_met.ensures;
  own = c.message_facts_are_forms.ensures;
  parts = c.large_facts_are_in_parts.ensures;
  given = c.numbers_give_terms.ensures;
}
