use Rattle.std.proofs.Common.{◌≡◌, ◌++◌, drop}
use Rattle.sap_terms.specs.Variables.{new_vars}
use Rattle.sap_rule.proofs.variables.first_occurrences.Given as goal

abbrev pub invariant-loop-v : goal.invariant-loop-v
invariant-loop-v l = l.out ++ new_vars l.known (drop l.v-index l.v-items) ≡ new_vars l.initial.known l.vars
