use Rattle.sap_run_lines.proofs.NoFeeds.{process_line_open, rule_line_open}
use Rattle.sap_run_lines.proofs.laws.step_lines_are_lines.Goals as goal

pub returns-clause-process : goal.returns-clause-process
returns-clause-process c = process_line_open

pub returns-clause-rule : goal.returns-clause-rule
returns-clause-rule c = rule_line_open
