use Rattle.std.proofs.Common.{◌≡◌, ◌<◌}
use Rattle.sap_macro.specs.Sources.{definitions, written}
use Rattle.sap_macro.specs.Written.{call}
use Rattle.sap_macro.specs.Walked.{steps_in}
use Rattle.sap_macro.specs.code.Steps.{built, IsFormed}
use Rattle.sap_macro.proofs.building.reached.Given as goal

abbrev pub invariant-loop-at : goal.invariant-loop-at
invariant-loop-at l = record {
  same : built (definitions l.defs) l.inner (written l.at) l.chosen ≡ built (definitions l.defs) l.fn.s (call l.fn.name l.fn.args) l.fn.chosen;
  steps : steps_in (definitions l.defs) (written l.at) < steps_in (definitions l.defs) (call l.fn.name l.fn.args);
  formed : IsFormed (definitions l.defs) (written l.at);
}

abbrev pub decreases-loop-at : goal.decreases-loop-at
decreases-loop-at l = steps_in (definitions l.defs) (written l.at)
