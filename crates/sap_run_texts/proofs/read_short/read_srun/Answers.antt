use Rattle.sap_run_texts.specs.RunTexts.{headless}
use Rattle.sap_run_texts.proofs.ShortRuns.{told_headed}
use Rattle.sap_run_texts.proofs.read_short.read_srun.Goals as goal

pub returns-in-None : goal.returns-in-None
returns-in-None c = headless c.in-None.ensures.none

pub returns-in-Some : goal.returns-in-Some
returns-in-Some c = told_headed c.in-Some.body.now c.args.bytes.now c.read_body.result c.in-Some.ensures.some c.read_body.ensures
