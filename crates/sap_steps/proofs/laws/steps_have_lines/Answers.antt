use Rattle.sap_steps.proofs.Runs.{steps_have_lines, runs_can_be_written}
use Rattle.sap_steps.proofs.laws.steps_have_lines.Goals as goal

pub returns-clause-steps : goal.returns-clause-steps
returns-clause-steps c = steps_have_lines

pub returns-clause-runs : goal.returns-clause-runs
returns-clause-runs c = runs_can_be_written
