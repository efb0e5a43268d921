use Rattle.std.proofs.Common.{◌≡◌, ◌++◌, take}
use Rattle.sap_gen.proofs.theory.add_restrictions.Given as goal

abbrev pub invariant-loop-other : goal.invariant-loop-other
invariant-loop-other l = l.all ≡ l.initial.all ++ take l.other-index l.other-items
