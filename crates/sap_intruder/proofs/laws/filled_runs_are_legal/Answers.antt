use Rattle.sap_runs.specs.Limits.{AnySize, HasFewNodes}
use Rattle.sap_intruder.proofs.LegalFilled.{filled_runs_are_legal}
use Rattle.sap_intruder.proofs.Sparing.{sparing_runs_fill}
use Rattle.sap_intruder.proofs.laws.filled_runs_are_legal.Goals as goal

pub returns-clause-runs : goal.returns-clause-runs
returns-clause-runs c = filled_runs_are_legal AnySize c.lines_are_steps.ensures.runs c.lines_look_at_one_entry.ensures.lines

pub returns-clause-small_runs : goal.returns-clause-small_runs
returns-clause-small_runs c = filled_runs_are_legal HasFewNodes c.lines_are_steps.ensures.small_runs c.lines_look_at_one_entry.ensures.small_lines

pub returns-clause-sparing : goal.returns-clause-sparing
returns-clause-sparing c = sparing_runs_fill
