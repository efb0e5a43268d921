use Rattle.sap_run_lines.proofs.TermsPrinted.{term_printed}
use Rattle.sap_run_lines.proofs.Lines.{process_printed, rule_printed}
use Rattle.sap_run_lines.proofs.laws.written_lines_are_read.Goals as goal

pub returns-clause-term : goal.returns-clause-term
returns-clause-term c = λ t k h. term_printed t h k

pub returns-clause-process : goal.returns-clause-process
returns-clause-process c = process_printed

pub returns-clause-rule : goal.returns-clause-rule
returns-clause-rule c = rule_printed
