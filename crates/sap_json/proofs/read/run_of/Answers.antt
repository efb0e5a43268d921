use Rattle.std.proofs.Common.{map}
use Rattle.serde_json.specs.View.{view}
use Rattle.sap_json.proofs.RunsRead.{other_kind}
use Rattle.sap_json.proofs.read.run_of.Goals as goal

pub returns-else-is-2 : goal.returns-else-is-2
returns-else-is-2 c = λ z v. other_kind z c.args.kind.now (map view c.args.steps.now) c.if-is.ensures c.if-is-2.ensures v
