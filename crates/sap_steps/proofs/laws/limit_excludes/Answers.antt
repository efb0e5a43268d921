use Rattle.sap_steps.proofs.Runs.{small_lines, small_runs}
use Rattle.sap_steps.proofs.laws.limit_excludes.Goals as goal

pub returns-clause-lines : goal.returns-clause-lines
returns-clause-lines c = small_lines

pub returns-clause-runs : goal.returns-clause-runs
returns-clause-runs c = small_runs
