use Rattle.std.proofs.Common.{◌≡◌, ◌++◌, drop}
use Rattle.sap_terms.proofs.items.push_copies.Given as goal

abbrev pub invariant-loop-x : goal.invariant-loop-x
invariant-loop-x g l = l.items.items ++ drop l.x-index l.xs ≡ l.initial.items.items ++ l.xs
