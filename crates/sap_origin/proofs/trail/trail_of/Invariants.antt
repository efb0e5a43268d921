use Rattle.sap_macro.specs.Sources.{definitions, located}
use Rattle.sap_origin.specs.Definitions.{located_definitions}
use Rattle.sap_origin.specs.code.Steps.{Tells, way_of}
use Rattle.sap_origin.proofs.trail.trail_of.Given as goal

abbrev pub invariant-loop-step : goal.invariant-loop-step
invariant-loop-step l = Tells (definitions l.fn.defs) (located_definitions l.fn.defs l.fn.behind) l.fn.replaced l.fn.path l.fn.behind_main (located l.fn.main) l.uses l.step

abbrev pub decreases-loop-step : goal.decreases-loop-step
decreases-loop-step l = way_of l.fn.path l.step
