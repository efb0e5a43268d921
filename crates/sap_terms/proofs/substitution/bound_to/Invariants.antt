use Rattle.std.proofs.Common.{◌≡◌, drop}
use Rattle.sap_terms.specs.Subst.{bound_to}
use Rattle.sap_terms.proofs.substitution.bound_to.Given as goal

abbrev pub invariant-loop-e : goal.invariant-loop-e
invariant-loop-e l = bound_to l.b l.v ≡ bound_to (drop l.e-index l.e-items) l.v
