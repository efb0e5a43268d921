use Rattle.std.proofs.Common.{◌≡◌, ◌+◌, drop}
use Rattle.sap_process.specs.Proc.{proc}
use Rattle.sap_process.specs.code.Tests.{free_of}
use Rattle.sap_process.proofs.walk.free_of.Given as goal

abbrev pub invariant-loop-k : goal.invariant-loop-k
invariant-loop-k l = free_of l.sig l.tested l.scope (proc l.p) l.flaws ≡ l.k + free_of l.sig l.tested l.scope (proc l.p) (drop l.k l.flaws)
