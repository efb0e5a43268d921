use Rattle.std.proofs.Common.{map, Ok, Err}
use Rattle.serde_json.specs.View.{view}
use Rattle.sap_json.proofs.RunsRead.{rule_told}
use Rattle.sap_json.proofs.read.rule_run.Goals as goal

pub returns-in-Ok : goal.returns-in-Ok
returns-in-Ok c = λ z v. rule_told z (map view c.args.steps.now) (Ok c.in-Ok.steps) (rw c.in-Ok.is at c.read_steps.ensures) v

pub returns-in-Err : goal.returns-in-Err
returns-in-Err c = λ z v. rule_told z (map view c.args.steps.now) (Err c.in-Err.fault) (rw c.in-Err.is at c.read_steps.ensures) v
