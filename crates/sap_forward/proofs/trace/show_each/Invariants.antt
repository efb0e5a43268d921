use Rattle.std.proofs.Common.{take}
use Rattle.sap_calc.specs.Replays.{AreDone}
use Rattle.sap_forward.proofs.trace.show_each.Given as goal

-- the lines so far are done
abbrev pub invariant-loop-k : goal.invariant-loop-k
invariant-loop-k l = AreDone l.initial.config (take l.k l.run) l.config l.trace
