use Rattle.std.proofs.Common.{ℕ, List, take}
use Rattle.sap_terms.specs.NameMap.{value_at}
use Rattle.sap_rule.specs.code.Checks.{AreNoted}
use Rattle.sap_rule.proofs.well_made.have_one_sort.Given as goal

abbrev pub invariant-loop-v : goal.invariant-loop-v
invariant-loop-v l = AreNoted (λ (n : List ℕ). value_at l.sorts n) (take l.v-index l.v-items)
