use Rattle.std.proofs.Common.{◌≡◌, take}
use Rattle.sap_process.proofs.OtherNames.{others}
use Rattle.sap_process.proofs.substituting.binds.Given as goal

abbrev pub invariant-loop-e : goal.invariant-loop-e
invariant-loop-e l = others l.x (take l.e-index l.e-items) ≡ take l.e-index l.e-items
