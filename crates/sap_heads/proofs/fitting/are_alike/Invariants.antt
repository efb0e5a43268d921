use Rattle.std.proofs.Common.{◌≡◌, take}
use Rattle.sap_heads.specs.code.Rules.{shapes_of, shapes_shared}
use Rattle.sap_heads.proofs.fitting.are_alike.Given as goal

abbrev pub invariant-loop-k : goal.invariant-loop-k
invariant-loop-k l = take l.k (shapes_of l.fs) ≡ take l.k (shapes_shared l.ss)
