use Rattle.sap_derive.specs.code.Needed.{IsWrittenTo}
use Rattle.sap_derive.proofs.write.write.Given as goal

abbrev pub invariant-loop-k : goal.invariant-loop-k
invariant-loop-k l = IsWrittenTo l.fn.closure l.fn.entries l.fn.goal l.order.items l.k l.entries l.lines
