use Rattle.std.proofs.Common.{◌≡◌, ◌-◌, ◌++◌, drop, length, map}
use Rattle.sap_match.specs.View.{held}
use Rattle.sap_search.specs.Explained.{told}
use Rattle.sap_search.specs.View.{chosen_value, slotted}
use Rattle.sap_search.proofs.explaining.tell.Given as goal

abbrev pub invariant-loop-k : goal.invariant-loop-k
invariant-loop-k l = map chosen_value l.out.items ≡ map chosen_value l.initial.out.items ++ told (map slotted (drop (length l.slots - l.k) l.slots)) (map held l.values.items)
