use Rattle.sap_steps.specs.Lines.{AnySize, HasFewNodes}
use Rattle.sap_steps.proofs.Runs.{line-step, legal-run}
use Rattle.sap_steps.proofs.laws.lines_are_steps.Goals as goal

pub returns-clause-steps : goal.returns-clause-steps
returns-clause-steps c = line-step AnySize

pub returns-clause-small_steps : goal.returns-clause-small_steps
returns-clause-small_steps c = line-step HasFewNodes

pub returns-clause-runs : goal.returns-clause-runs
returns-clause-runs c = legal-run AnySize

pub returns-clause-small_runs : goal.returns-clause-small_runs
returns-clause-small_runs c = legal-run HasFewNodes
