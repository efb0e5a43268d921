use Rattle.sap_lines.proofs.Written.{runs_can_be_written, given_terms_can_be_entered}
use Rattle.sap_lines.proofs.laws.each_run_can_be_written.Goals as goal

pub returns-clause-runs : goal.returns-clause-runs
returns-clause-runs c = runs_can_be_written c.each_term_has_a_normal_form.ensures c.normal_forms_are_unique.ensures c.normal_forms_decide.ensures

pub returns-clause-entered : goal.returns-clause-entered
returns-clause-entered c = given_terms_can_be_entered c.each_term_has_a_normal_form.ensures c.normal_forms_are_unique.ensures c.normal_forms_decide.ensures
