use Rattle.sap_steps.specs.Lines.{AnySize, HasFewNodes}
use Rattle.sap_steps.proofs.OneOutcome.{one_outcome, reached_outcome}
use Rattle.sap_steps.proofs.laws.lines_have_one_outcome.Goals as goal

pub returns-clause-held : goal.returns-clause-held
returns-clause-held c = one_outcome c.matching_around_is_modulo.ensures c.normal_forms_are_unique.ensures c.taken_facts_are_messages.ensures AnySize

pub returns-clause-small : goal.returns-clause-small
returns-clause-small c = one_outcome c.matching_around_is_modulo.ensures c.normal_forms_are_unique.ensures c.taken_facts_are_messages.ensures HasFewNodes

pub returns-clause-reached : goal.returns-clause-reached
returns-clause-reached c = reached_outcome c.matching_around_is_modulo.ensures c.normal_forms_are_unique.ensures c.taken_facts_are_messages.ensures c.runs_reach_messages.ensures AnySize

pub returns-clause-small_reached : goal.returns-clause-small_reached
returns-clause-small_reached c = reached_outcome c.matching_around_is_modulo.ensures c.normal_forms_are_unique.ensures c.taken_facts_are_messages.ensures c.runs_reach_messages.ensures HasFewNodes
