use Rattle.std.proofs.Common.{◌≡◌, drop}
use Rattle.sap_other_nodes.specs.code.FactSearches.{past}
use Rattle.sap_other_nodes.proofs.other_fact.past.Given as goal

abbrev pub invariant-loop-f : goal.invariant-loop-f
invariant-loop-f l = past l.node (drop l.f-index l.f-items) ≡ past l.front l.fs
