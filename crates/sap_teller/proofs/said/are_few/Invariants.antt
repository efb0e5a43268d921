use Rattle.std.proofs.Common.{◌≡◌, drop}
use Rattle.sap_tell.specs.Said.{are_few}
use Rattle.sap_teller.proofs.said.are_few.Given as goal

abbrev pub invariant-loop-k : goal.invariant-loop-k
invariant-loop-k l = are_few l.ts ≡ are_few (drop l.k l.ts)
