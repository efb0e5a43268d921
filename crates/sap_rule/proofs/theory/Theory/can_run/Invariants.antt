use Rattle.std.proofs.Common.{take}
use Rattle.std.specs.Prelude.{All}
use Rattle.sap_rule.specs.WellMade.{IsWellMade}
use Rattle.sap_rule.proofs.theory.Theory.can_run.Given as goal

abbrev pub invariant-loop-k : goal.invariant-loop-k
invariant-loop-k l = All (IsWellMade l.self.signature) (take l.k l.self.rules)
