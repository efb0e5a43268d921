use Rattle.sap_lines.proofs.Runs.{small_line, small_run}
use Rattle.sap_lines.proofs.laws.limit_excludes.Goals as goal

pub returns-clause-lines : goal.returns-clause-lines
returns-clause-lines c = small_line

pub returns-clause-runs : goal.returns-clause-runs
returns-clause-runs c = small_run
