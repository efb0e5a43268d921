use Rattle.std.proofs.Common.{take}
use Rattle.sap_intruder.specs.code.Filled.{AreCarriedOut}
use Rattle.sap_intruder.proofs.filling.Filling.carry_each.Given as goal

-- the lines so far were done
abbrev pub invariant-loop-k : goal.invariant-loop-k
invariant-loop-k l = AreCarriedOut l.initial.self l.self (take l.k l.lines)
