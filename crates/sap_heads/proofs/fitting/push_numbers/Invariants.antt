use Rattle.std.proofs.Common.{◌≡◌, ◌++◌, take}
use Rattle.sap_heads.proofs.fitting.push_numbers.Given as goal

abbrev pub invariant-loop-k : goal.invariant-loop-k
invariant-loop-k l = l.out ≡ l.initial.out ++ take l.k-index l.k-items
