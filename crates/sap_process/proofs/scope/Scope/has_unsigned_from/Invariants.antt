use Rattle.std.proofs.Common.{◌≡◌, drop, not}
use Rattle.std.specs.List.{list_any}
use Rattle.sap_terms.specs.Same.{same_sort}
use Rattle.sap_terms.specs.declared.var.Sort.TheVariants.{Pub}
use Rattle.sap_terms.specs.declared.var.Var.{Var}
use Rattle.sap_process.proofs.scope.Scope.has_unsigned_from.Given as goal

abbrev pub invariant-loop-k : goal.invariant-loop-k
invariant-loop-k l =
    list_any (λ (v : Var). not (same_sort v.sort Pub)) (drop l.first l.vars) ≡ list_any (λ (v : Var). not (same_sort v.sort Pub)) (drop l.k l.vars)
