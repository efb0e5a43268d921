use Rattle.sap_share.specs.Shared.{Keeps}
use Rattle.std.proofs.Common.{take}
use Rattle.sap_sides.specs.SharedFacts.{AreShared}
use Rattle.sap_sides.proofs.shared_fact.share_facts.Given as goal

abbrev pub invariant-loop-k : goal.invariant-loop-k
invariant-loop-k l = record {
  shared : AreShared l.table.trees (take l.k l.fs) l.shared.items;
  keeps : Keeps l.initial.table l.table;
}
