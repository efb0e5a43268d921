use Rattle.sap_origin.specs.Definitions.{located_definitions}
use Rattle.sap_macro.specs.Sources.{definitions}
use Rattle.sap_roles.proofs.role.step_from.Goals as goal

pub returns-in_default : goal.returns-in_default
returns-in_default c = λ ns s count. c.go_below.ensures (definitions c.args.defs.now) (located_definitions c.args.defs.now ns) s

pub returns-in-Call : goal.returns-in-Call
returns-in-Call c = λ ns s. c.through_use.ensures ns c.args.path.now s
