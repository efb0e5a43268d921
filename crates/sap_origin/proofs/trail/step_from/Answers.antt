use Rattle.sap_macro.specs.Sources.{definitions}
use Rattle.sap_origin.specs.Definitions.{located_definitions}
use Rattle.sap_origin.proofs.trail.step_from.Goals as goal

pub returns-in_default : goal.returns-in_default
returns-in_default c = c.go_below.ensures (definitions c.args.defs.now) (located_definitions c.args.defs.now c.args.behind.now) c.args.replaced
