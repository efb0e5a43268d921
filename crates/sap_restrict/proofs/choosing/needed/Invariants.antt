use Rattle.std.proofs.Common.{◌≡◌, take}
use Rattle.std.specs.Prelude.{filter}
use Rattle.sap_process.specs.Proc.{proc}
use Rattle.sap_restrict.specs.Needed.{needs}
use Rattle.sap_restrict.specs.Standard.{every_which}
use Rattle.sap_restrict.proofs.choosing.needed.Given as goal

abbrev pub invariant-loop-k : goal.invariant-loop-k
invariant-loop-k l = l.all ≡ filter (λ w. needs w (proc l.p)) (take l.k every_which)
