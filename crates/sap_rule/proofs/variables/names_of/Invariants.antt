use Rattle.std.proofs.Common.{◌≡◌, ℕ, List, map, take}
use Rattle.sap_terms.specs.declared.var.Var.{Var}
use Rattle.sap_terms.specs.Variables.{is_known}
use Rattle.sap_rule.proofs.variables.names_of.Given as goal

abbrev pub invariant-loop-v : goal.invariant-loop-v
invariant-loop-v l = (n : List ℕ) → is_known l.names n ≡ is_known (map (λ (v : Var). v.name) (take l.v-index l.v-items)) n
