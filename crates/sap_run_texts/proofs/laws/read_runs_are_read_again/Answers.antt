use Rattle.sap_run_lines.specs.StepLines.{IsProcessStepLine, IsRuleStepLine}
use Rattle.sap_run_texts.proofs.ReadRuns.{text_within}
use Rattle.sap_run_texts.proofs.laws.read_runs_are_read_again.Goals as goal

pub returns-clause-process : goal.returns-clause-process
returns-clause-process c = λ z ss read. c.printed_runs_are_read.ensures.process ss (c.read_runs_can_be_written.ensures.process z ss read) (text_within IsProcessStepLine _ _ z ss read)

pub returns-clause-rule : goal.returns-clause-rule
returns-clause-rule c = λ z ss read. c.printed_runs_are_read.ensures.rule ss (c.read_runs_can_be_written.ensures.rule z ss read) (text_within IsRuleStepLine _ _ z ss read)
