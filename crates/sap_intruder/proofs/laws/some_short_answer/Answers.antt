use Rattle.sap_intruder.proofs.SomeAnswer.{short_lines_have_some_answer, short_runs_have_some_answer}
use Rattle.sap_intruder.proofs.laws.some_short_answer.Goals as goal

pub returns-clause-steps : goal.returns-clause-steps
returns-clause-steps c =
    short_lines_have_some_answer c.each_term_has_a_normal_form.ensures c.normal_forms_are_unique.ensures c.lines_have_some_answer.ensures c.deducibility_is_decided.ensures

pub returns-clause-runs : goal.returns-clause-runs
returns-clause-runs c =
    short_runs_have_some_answer c.each_term_has_a_normal_form.ensures c.normal_forms_are_unique.ensures c.lines_have_some_answer.ensures c.deducibility_is_decided.ensures
    c.runs_stay_ground.ensures.runs c.each_run_can_be_written.ensures.runs c.runs_match_exactly.ensures c.short_runs_are_runs.ensures.small_runs
