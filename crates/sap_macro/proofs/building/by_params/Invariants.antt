use Rattle.std.proofs.Common.{◌≤◌, length, drop}
use Rattle.sap_macro.specs.code.Entering.{ArePut}
use Rattle.sap_macro.proofs.building.by_params.Given as goal

abbrev pub invariant-loop-k : goal.invariant-loop-k
invariant-loop-k l = (l.k ≤ length l.params) × ArePut (drop l.k l.params) (drop l.k l.args) l.terms

abbrev pub decreases-loop-k : goal.decreases-loop-k
decreases-loop-k l = l.k
