use Rattle.std.proofs.Common.{ap, ◌∙◌}
use Rattle.sap_calc.specs.Running.{configuration}
use Rattle.sap_teller.proofs.told_run.started.Goals as goal

pub returns-clause-configuration : goal.returns-clause-configuration
returns-clause-configuration c = ap configuration c.in_ok-new.ensures.ok ∙ c.in_ok-start.ensures.configuration
