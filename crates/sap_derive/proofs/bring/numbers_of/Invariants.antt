use Rattle.std.proofs.Common.{◌≡◌, take}
use Rattle.sap_derive.proofs.bring.numbers_of.Given as goal

abbrev pub invariant-loop-n : goal.invariant-loop-n
invariant-loop-n l = l.ks ≡ take l.n-index l.ns
