use Rattle.std.proofs.Common.{◌≤◌}
use Rattle.sap_formula.specs.declared.formula.Formula.{size-Formula}
use Rattle.sap_formula.proofs.formula.Formula.+drop.Given as goal

-- what is left is no deeper
abbrev pub invariant-loop-self : goal.invariant-loop-self
invariant-loop-self l = size-Formula l.self ≤ size-Formula l.initial.self
