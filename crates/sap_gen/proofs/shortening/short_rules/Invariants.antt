use Rattle.std.proofs.Common.{take}
use Rattle.sap_process.specs.Proc.{Proc}
use Rattle.sap_gen.specs.Short.{AreShort}
use Rattle.sap_gen.specs.code.Takers.{NamesTell}
use Rattle.sap_gen.proofs.shortening.short_rules.Given as goal

abbrev pub invariant-loop-k : goal.invariant-loop-k
invariant-loop-k l = (p : Proc) → NamesTell p l.rules → AreShort p (take l.k l.rules) l.short
