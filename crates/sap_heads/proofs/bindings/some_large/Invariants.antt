use Rattle.std.proofs.Common.{take}
use Rattle.sap_heads.specs.code.Rules.{NoneLarge}
use Rattle.sap_heads.proofs.bindings.some_large.Given as goal

abbrev pub invariant-loop-k : goal.invariant-loop-k
invariant-loop-k l = NoneLarge (take l.k l.b)
