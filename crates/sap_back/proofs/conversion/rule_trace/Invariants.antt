use Rattle.std.proofs.Common.{take}
use Rattle.sap_process.specs.Proc.{proc}
use Rattle.sap_restrict.specs.View.{machine}
use Rattle.sap_back.specs.code.Replayed.{IsReplayed}
use Rattle.sap_back.proofs.conversion.rule_trace.Given as goal

-- the lines so far are replayed, and this is their full trace
abbrev pub invariant-loop-at : goal.invariant-loop-at
invariant-loop-at l = IsReplayed l.f.signature (proc l.f.process) l.replay.value.state (machine l.replay.value.guard) (take l.at l.run) l.full
