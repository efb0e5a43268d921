use Rattle.std.proofs.Common.{◌≡◌, take}
use Rattle.sap_facts.specs.Cited.{cited_at}
use Rattle.sap_steps.proofs.cited.cited_facts.Given as goal

abbrev pub invariant-loop-k : goal.invariant-loop-k
invariant-loop-k l = l.fs ≡ cited_at l.facts.slots (take l.k-index l.k-items)
