use Rattle.std.proofs.Common.{◌≡◌, take}
use Rattle.sap_facts.specs.Cited.{left_of}
use Rattle.sap_facts.proofs.citing.take_each.Given as goal

abbrev pub invariant-loop-k : goal.invariant-loop-k
invariant-loop-k l = record {
  slots : l.facts.slots ≡ left_of l.initial.facts.slots (take l.k-index l.k-items);
  spare : l.facts.spare ≡ l.initial.facts.spare;
}
