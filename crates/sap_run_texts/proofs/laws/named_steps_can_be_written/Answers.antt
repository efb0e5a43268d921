use Rattle.sap_run_texts.proofs.NamedSteps.{named_written, named_rule_written}
use Rattle.sap_run_texts.proofs.laws.named_steps_can_be_written.Goals as goal

pub returns-clause-process : goal.returns-clause-process
returns-clause-process c = named_written

pub returns-clause-rule : goal.returns-clause-rule
returns-clause-rule c = named_rule_written
