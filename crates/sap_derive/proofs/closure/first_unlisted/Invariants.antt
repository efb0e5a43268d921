use Rattle.sap_derive.specs.code.Listed.{AreListedBefore}
use Rattle.sap_derive.proofs.closure.first_unlisted.Given as goal

abbrev pub invariant-loop-k : goal.invariant-loop-k
invariant-loop-k l = AreListedBefore l.known l.numbers l.k
