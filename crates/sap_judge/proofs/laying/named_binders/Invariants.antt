use Rattle.std.proofs.Common.{◌≡◌, take}
use Rattle.sap_judge.proofs.laying.named_binders.Given as goal

abbrev pub invariant-loop-b : goal.invariant-loop-b
invariant-loop-b l = l.out ≡ take l.b-index l.b-items
