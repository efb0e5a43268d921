use Rattle.sap_run_texts.proofs.PrintedRuns.{process_back, rule_back}
use Rattle.sap_run_texts.proofs.laws.printed_runs_are_read.Goals as goal

pub returns-clause-process : goal.returns-clause-process
returns-clause-process c = process_back c.written_lines_are_read.ensures.process

pub returns-clause-rule : goal.returns-clause-rule
returns-clause-rule c = rule_back c.written_lines_are_read.ensures.rule
