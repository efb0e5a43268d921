use Rattle.sap_run_texts.proofs.OneRun.{one_process_run, one_rule_run, one_read}
use Rattle.sap_run_texts.proofs.laws.one_run.Goals as goal

pub returns-clause-process : goal.returns-clause-process
returns-clause-process c =
    one_process_run c.lines_are_one.ensures.process c.lines_are_one.ensures.rule c.step_lines_are_lines.ensures.process c.step_lines_are_lines.ensures.rule

pub returns-clause-rule : goal.returns-clause-rule
returns-clause-rule c =
    one_rule_run c.lines_are_one.ensures.process c.lines_are_one.ensures.rule c.step_lines_are_lines.ensures.process c.step_lines_are_lines.ensures.rule

pub returns-clause-either : goal.returns-clause-either
returns-clause-either c =
    one_read c.lines_are_one.ensures.process c.lines_are_one.ensures.rule c.step_lines_are_lines.ensures.process c.step_lines_are_lines.ensures.rule
