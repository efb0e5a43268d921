use Rattle.std.proofs.Common.{take}
use Rattle.sap_process.specs.Proc.{proc}
use Rattle.sap_restrict.specs.View.{machine}
use Rattle.sap_back.proofs.Converting.{IsConverting}
use Rattle.sap_back.proofs.conversion.to_process.Given as goal

-- the lines so far are converted
abbrev pub invariant-loop-at : goal.invariant-loop-at
invariant-loop-at l = IsConverting l.f.signature (proc l.f.process) l.replay.value.state (machine l.replay.value.guard) l.desk.value (take l.at l.run) l.lines
