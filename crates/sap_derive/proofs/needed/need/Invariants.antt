use Rattle.sap_derive.specs.code.Needed.{AreNeededTo}
use Rattle.sap_derive.proofs.needed.need.Given as goal

abbrev pub invariant-loop-k : goal.invariant-loop-k
invariant-loop-k l = AreNeededTo l.fn.closure l.fn.entries l.fn.goal l.ranks l.k
