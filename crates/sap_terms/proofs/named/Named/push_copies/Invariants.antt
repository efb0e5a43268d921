use Rattle.std.proofs.Common.{◌≡◌, ◌++◌, drop}
use Rattle.sap_terms.proofs.named.Named.push_copies.Given as goal

abbrev pub invariant-loop-x : goal.invariant-loop-x
invariant-loop-x g l = l.self ++ drop l.x-index l.items ≡ l.initial.self ++ l.items
