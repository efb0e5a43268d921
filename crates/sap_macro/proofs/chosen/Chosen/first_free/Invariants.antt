use Rattle.std.proofs.Common.{◌<◌}
use Rattle.sap_macro.specs.code.Taking.{AreBelow}
use Rattle.sap_macro.proofs.chosen.Chosen.first_free.Given as goal

abbrev pub invariant-loop-number : goal.invariant-loop-number
invariant-loop-number l = (0 < l.number) × AreBelow l.fn.self l.x l.number
