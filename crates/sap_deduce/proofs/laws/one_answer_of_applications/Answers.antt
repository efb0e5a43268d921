use Rattle.sap_deduce.proofs.OneAnswer.{one_outcome, one_answer, one_cause, some_answer}
use Rattle.sap_deduce.proofs.laws.one_answer_of_applications.Goals as goal

pub returns-clause-outcome : goal.returns-clause-outcome
returns-clause-outcome c = one_outcome c.normal_forms_are_unique.ensures

pub returns-clause-answer : goal.returns-clause-answer
returns-clause-answer c = one_answer c.normal_forms_are_unique.ensures

pub returns-clause-cause : goal.returns-clause-cause
returns-clause-cause c = one_cause

pub returns-clause-some : goal.returns-clause-some
returns-clause-some c = some_answer c.each_term_has_a_normal_form.ensures
