use Rattle.sap_macro.specs.Sources.{definitions}
use Rattle.sap_origin.specs.Definitions.{located_definitions}
use Rattle.sap_origin.proofs.trail.from_use.Goals as goal

pub returns-in-None : goal.returns-in-None
returns-in-None c = λ s so within.
    c.stay.ensures (definitions c.args.defs.now) (located_definitions c.args.defs.now c.args.behind.now) s ((rw c.in-None.is at c.replacing.ensures) c.args.behind.now c.requires.count)

pub returns-in-Some : goal.returns-in-Some
returns-in-Some c = c.enter.ensures c.args.path.now
