use Rattle.std.proofs.Common.{◌≡◌, take}
use Rattle.sap_facts.specs.Cited.{left_of}
use Rattle.sap_steps.proofs.taking.take_each.Given as goal

abbrev pub invariant-loop-k : goal.invariant-loop-k
invariant-loop-k l = record {
  sig : l.facts.sig ≡ l.initial.facts.sig;
  trees : l.facts.trees ≡ l.initial.facts.trees;
  slots : l.facts.slots ≡ left_of l.initial.facts.slots (take l.k-index l.k-items);
  spare : l.facts.spare ≡ l.initial.facts.spare;
}
