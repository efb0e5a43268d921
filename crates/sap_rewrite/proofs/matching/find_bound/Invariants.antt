use Rattle.std.proofs.Common.{◌≡◌, drop}
use Rattle.sap_rewrite.specs.code.Walk.{bound}
use Rattle.sap_rewrite.proofs.matching.find_bound.Given as goal

abbrev pub invariant-loop-e : goal.invariant-loop-e
invariant-loop-e l = bound l.b l.name ≡ bound (drop l.e-index l.e-items) l.name
