use Rattle.sap_steps.proofs.OneAnswer.{one_answer, reached_answer}
use Rattle.sap_steps.proofs.OneCause.{refusals_are_one}
use Rattle.sap_steps.proofs.laws.lines_have_one_answer.Goals as goal

pub returns-clause-held : goal.returns-clause-held
returns-clause-held c = one_answer c.matching_around_is_modulo.ensures c.normal_forms_are_unique.ensures c.taken_facts_are_messages.ensures

pub returns-clause-reached : goal.returns-clause-reached
returns-clause-reached c = reached_answer c.matching_around_is_modulo.ensures c.normal_forms_are_unique.ensures c.taken_facts_are_messages.ensures c.runs_reach_messages.ensures

pub returns-clause-causes : goal.returns-clause-causes
returns-clause-causes c = refusals_are_one
