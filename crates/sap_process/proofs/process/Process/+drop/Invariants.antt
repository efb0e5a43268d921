use Rattle.std.proofs.Common.{◌≤◌}
use Rattle.sap_process.specs.declared.process.Process.{size-Process}
use Rattle.sap_process.proofs.process.Process.+drop.Given as goal

-- what is left is no deeper
abbrev pub invariant-loop-self : goal.invariant-loop-self
invariant-loop-self l = size-Process l.self ≤ size-Process l.initial.self
