use Rattle.std.proofs.Common.{◌≡◌, take}
use Rattle.sap_sides.proofs.evaluated.are_same.Given as goal

abbrev pub invariant-loop-k : goal.invariant-loop-k
invariant-loop-k l = take l.k l.ts ≡ take l.k l.us
