use Rattle.std.proofs.Common.{sym}
use Rattle.sap_runs.proofs.rule_step.RStepCopied.copy.Goals as goal

pub returns-in-Fresh : goal.returns-in-Fresh
returns-in-Fresh c = sym c.in-Fresh.is

pub returns-in-Learn : goal.returns-in-Learn
returns-in-Learn c = sym c.in-Learn.is

pub returns-in-Own : goal.returns-in-Own
returns-in-Own c = sym c.in-Own.is

pub returns-in-Know : goal.returns-in-Know
returns-in-Know c = sym c.in-Know.is
