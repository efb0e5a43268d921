use Rattle.sap_run_texts.proofs.OneRun.{some_process_run, some_rule_run, some_read}
use Rattle.sap_run_texts.proofs.laws.some_run.Goals as goal

pub returns-clause-process : goal.returns-clause-process
returns-clause-process c = some_process_run c.lines_are_one.ensures.decided c.lines_are_one.ensures.rule_decided

pub returns-clause-rule : goal.returns-clause-rule
returns-clause-rule c = some_rule_run c.lines_are_one.ensures.decided c.lines_are_one.ensures.rule_decided

pub returns-clause-either : goal.returns-clause-either
returns-clause-either c = some_read c.lines_are_one.ensures.decided c.lines_are_one.ensures.rule_decided
