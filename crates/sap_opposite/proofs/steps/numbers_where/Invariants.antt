use Rattle.std.proofs.Common.{◌≡◌, ◌++◌, ◌+◌, drop}
use Rattle.sap_opposite.specs.Steps.{numbers_where}
use Rattle.sap_opposite.specs.code.Kinds.{is_of}
use Rattle.sap_opposite.proofs.steps.numbers_where.Given as goal

abbrev pub invariant-loop-at : goal.invariant-loop-at
invariant-loop-at l = l.numbers ++ numbers_where (is_of l.kind) (l.at + 1) (drop l.at l.run) ≡ numbers_where (is_of l.kind) 1 l.run
