use Rattle.sap_runs.specs.Limits.{AnySize, HasFewNodes}
use Rattle.sap_intruder.proofs.Runs.{short_runs_are_runs}
use Rattle.sap_intruder.proofs.laws.short_runs_are_runs.Goals as goal

pub returns-clause-runs : goal.returns-clause-runs
returns-clause-runs c = short_runs_are_runs AnySize c.lines_are_steps.ensures.steps

pub returns-clause-small_runs : goal.returns-clause-small_runs
returns-clause-small_runs c = short_runs_are_runs HasFewNodes c.lines_are_steps.ensures.small_steps
