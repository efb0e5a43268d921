use Rattle.sap_run_lines.proofs.Lines.{one_process, one_rule, process_decided, rule_decided}
use Rattle.sap_run_lines.proofs.laws.lines_are_one.Goals as goal

pub returns-clause-process : goal.returns-clause-process
returns-clause-process c = one_process

pub returns-clause-rule : goal.returns-clause-rule
returns-clause-rule c = one_rule

pub returns-clause-decided : goal.returns-clause-decided
returns-clause-decided c = process_decided

pub returns-clause-rule_decided : goal.returns-clause-rule_decided
returns-clause-rule_decided c = rule_decided
