use Rattle.sap_verdicts.proofs.Modes.{decides, findings_decide}
use Rattle.sap_verdicts.proofs.laws.one_run_decides.Goals as goal

pub returns-clause-run : goal.returns-clause-run
returns-clause-run c = decides c.lines_are_steps.ensures.small_runs

pub returns-clause-lines : goal.returns-clause-lines
returns-clause-lines c = findings_decide c.lines_are_steps.ensures.small_runs
