use Rattle.std.proofs.Common.{◌≡◌, ◌≤◌, ◌+◌, ◌^◌, ◌-◌, min, drop}
use Rattle.sap_formula.specs.Cost.{time_facts}
use Rattle.sap_formula.proofs.tuples.count_time.Given as goal

abbrev pub invariant-loop-f : goal.invariant-loop-f
invariant-loop-f l =
    record { capped : l.total ≤ 2 ^ 64 - 1; rest : min (time_facts l.name l.f-items) (2 ^ 64 - 1) ≡ min (l.total + time_facts l.name (drop l.f-index l.f-items)) (2 ^ 64 - 1) }
