use Rattle.std.proofs.Common.{◌≡◌, ◌≤◌, ◌+◌, ◌^◌, ◌-◌, min, drop}
use Rattle.sap_formula.specs.Cost.{trace_facts}
use Rattle.sap_formula.proofs.tuples.count_facts.Given as goal

abbrev pub invariant-loop-p : goal.invariant-loop-p
invariant-loop-p l =
    record { capped : l.total ≤ 2 ^ 64 - 1; rest : min (trace_facts l.name l.p-items) (2 ^ 64 - 1) ≡ min (l.total + trace_facts l.name (drop l.p-index l.p-items)) (2 ^ 64 - 1) }
