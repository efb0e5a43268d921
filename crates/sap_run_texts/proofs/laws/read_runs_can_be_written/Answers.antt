use Rattle.sap_run_texts.proofs.ReadRuns.{process_run_back, rule_run_back}
use Rattle.sap_run_texts.proofs.laws.read_runs_can_be_written.Goals as goal

pub returns-clause-process : goal.returns-clause-process
returns-clause-process c = process_run_back

pub returns-clause-rule : goal.returns-clause-rule
returns-clause-rule c = rule_run_back
