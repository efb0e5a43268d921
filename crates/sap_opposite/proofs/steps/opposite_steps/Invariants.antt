use Rattle.std.proofs.Common.{◌≡◌, ◌++◌, take, drop}
use Rattle.std.specs.List.{count_by}
use Rattle.sap_opposite.specs.Steps.{ends_wait, is_no_know, opposite_steps, steps_behind}
use Rattle.sap_opposite.proofs.steps.opposite_steps.Given as goal

abbrev pub invariant-loop-step : goal.invariant-loop-step
invariant-loop-step l =
    (l.steps ++ steps_behind l.run (take l.step-index l.lines) (drop l.step-index l.lines) ≡ opposite_steps l.run l.lines)
    × ((l.moved ≡ count_by is_no_know (take l.step-index l.lines)) × (l.ended ≡ count_by ends_wait (take l.step-index l.lines)))
