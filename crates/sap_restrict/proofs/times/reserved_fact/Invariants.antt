use Rattle.std.proofs.Common.{◌≡◌, drop}
use Rattle.sap_restrict.specs.code.Deeds.{reserved_in}
use Rattle.sap_restrict.proofs.times.reserved_fact.Given as goal

abbrev pub invariant-loop-f : goal.invariant-loop-f
invariant-loop-f l = reserved_in l.f-items ≡ reserved_in (drop l.f-index l.f-items)
