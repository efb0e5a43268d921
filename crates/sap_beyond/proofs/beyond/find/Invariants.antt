use Rattle.sap_macro.specs.Sources.{definitions, written}
use Rattle.sap_beyond.specs.code.Shapes.{shape_in}
use Rattle.sap_beyond.specs.code.Steps.{ComesTo, IsAt, steps_at}
use Rattle.sap_beyond.proofs.beyond.find.Given as goal

abbrev pub invariant-loop-step : goal.invariant-loop-step
invariant-loop-step l =
    ComesTo l.fn.by (definitions l.fn.defs) (shape_in (definitions l.fn.defs) (written l.fn.main)) l.fn.wanted l.trail l.step
    × IsAt l.fn.index l.step

abbrev pub decreases-loop-step : goal.decreases-loop-step
decreases-loop-step l = steps_at (definitions l.fn.defs) l.step
