use Rattle.std.proofs.Common.{◌≡◌, map, take}
use Rattle.sap_sides.specs.SharedFacts.{fact_seen}
use Rattle.sap_sides.proofs.shared_fact.built_facts.Given as goal

abbrev pub invariant-loop-s : goal.invariant-loop-s
invariant-loop-s l = l.fs ≡ map (fact_seen l.table.trees) (take l.s-index l.shared)
