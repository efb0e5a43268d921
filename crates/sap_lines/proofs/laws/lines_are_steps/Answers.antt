use Rattle.sap_runs.specs.Limits.{AnySize, HasFewNodes}
use Rattle.sap_lines.proofs.Runs.{line_step, legal_run}
use Rattle.sap_lines.proofs.laws.lines_are_steps.Goals as goal

pub returns-clause-steps : goal.returns-clause-steps
returns-clause-steps c = line_step c.normal_forms_are_unique.ensures c.normal_forms_decide.ensures c.leaves_are_normal.ensures AnySize

pub returns-clause-small_steps : goal.returns-clause-small_steps
returns-clause-small_steps c = line_step c.normal_forms_are_unique.ensures c.normal_forms_decide.ensures c.leaves_are_normal.ensures HasFewNodes

pub returns-clause-runs : goal.returns-clause-runs
returns-clause-runs c = legal_run c.normal_forms_are_unique.ensures c.normal_forms_decide.ensures c.leaves_are_normal.ensures AnySize

pub returns-clause-small_runs : goal.returns-clause-small_runs
returns-clause-small_runs c = legal_run c.normal_forms_are_unique.ensures c.normal_forms_decide.ensures c.leaves_are_normal.ensures HasFewNodes
