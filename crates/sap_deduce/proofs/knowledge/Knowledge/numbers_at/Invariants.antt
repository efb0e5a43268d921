use Rattle.std.proofs.Common.{◌≡◌, length, take}
use Rattle.sap_share.specs.Shared.{trees_at, AreBelow}
use Rattle.sap_deduce.specs.Entries.{AreTermsAt}
use Rattle.sap_deduce.proofs.knowledge.Knowledge.numbers_at.Given as goal

abbrev pub invariant-loop-k : goal.invariant-loop-k
invariant-loop-k l = record {
  count : length l.ks ≡ l.k-index;
  below : AreBelow (length l.table.trees) l.ks;
  terms : AreTermsAt l.self.entries (take l.k-index l.k-items) (trees_at l.table.trees l.ks);
}
