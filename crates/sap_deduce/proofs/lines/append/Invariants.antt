use Rattle.std.proofs.Common.{◌≡◌, ◌++◌, take}
use Rattle.sap_deduce.proofs.lines.append.Given as goal

abbrev pub invariant-loop-k : goal.invariant-loop-k
invariant-loop-k l = l.used ≡ l.initial.used ++ take l.k-index l.k-items
