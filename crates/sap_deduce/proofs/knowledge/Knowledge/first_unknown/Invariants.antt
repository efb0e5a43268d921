use Rattle.std.proofs.Common.{◌≡◌, find, nat_le, drop}
use Rattle.sap_deduce.proofs.knowledge.Knowledge.first_unknown.Given as goal

abbrev pub invariant-loop-k : goal.invariant-loop-k
invariant-loop-k l = find (nat_le l.count) l.numbers ≡ find (nat_le l.count) (drop l.k-index l.k-items)
