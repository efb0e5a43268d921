use Rattle.std.proofs.Common.{◌≡◌, take}
use Rattle.sap_rewrite.specs.Match.{bound_vars}
use Rattle.sap_sides.proofs.bindings.are_of.Given as goal

abbrev pub invariant-loop-k : goal.invariant-loop-k
invariant-loop-k l = take l.k (bound_vars l.b) ≡ take l.k l.vars
