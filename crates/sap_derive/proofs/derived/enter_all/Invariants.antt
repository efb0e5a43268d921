use Rattle.std.proofs.Common.{◌≡◌, take}
use Rattle.sap_derive.proofs.derived.enter_all.Given as goal

abbrev pub invariant-loop-k : goal.invariant-loop-k
invariant-loop-k l = record {
  sig : l.search.sig ≡ l.fn.search.sig;
  entries : l.search.entries ≡ take l.k l.fn.entries;
}
