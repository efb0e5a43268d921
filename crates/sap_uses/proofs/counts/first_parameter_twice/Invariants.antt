use Rattle.std.proofs.Common.{◌≡◌, drop}
use Rattle.sap_macro.specs.MacroCauses.{first_parameter_twice}
use Rattle.sap_macro.specs.Sources.{definitions}
use Rattle.sap_uses.proofs.counts.first_parameter_twice.Given as goal

abbrev pub invariant-loop-k : goal.invariant-loop-k
invariant-loop-k l = first_parameter_twice (definitions l.defs) ≡ first_parameter_twice (drop l.k (definitions l.defs))
