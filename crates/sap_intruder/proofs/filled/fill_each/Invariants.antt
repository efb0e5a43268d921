use Rattle.std.proofs.Common.{take}
use Rattle.sap_process.specs.Proc.{proc}
use Rattle.sap_intruder.specs.code.Filled.{IsFilledTo}
use Rattle.sap_intruder.proofs.filled.fill_each.Given as goal

-- the steps so far are filled
abbrev pub invariant-loop-k : goal.invariant-loop-k
invariant-loop-k l = IsFilledTo l.f.signature (proc l.f.process) (take l.k l.run) l.filling
