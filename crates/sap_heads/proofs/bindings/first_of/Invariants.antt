use Rattle.std.proofs.Common.{◌≡◌, ◌++◌, drop}
use Rattle.sap_terms.specs.Variables.{new_vars}
use Rattle.sap_heads.specs.Bound.{names_of}
use Rattle.sap_heads.proofs.bindings.first_of.Given as goal

abbrev pub invariant-loop-v : goal.invariant-loop-v
invariant-loop-v l = l.out ++ new_vars (names_of l.env ++ l.known) (drop l.v-index l.v-items) ≡ new_vars (names_of l.env ++ l.initial.known) l.vars
