use Rattle.sap_deduce.proofs.Entered.{entries_none}
use Rattle.sap_deduce.proofs.knowledge.Knowledge.new.Goals as goal

pub invariant_of-result : goal.invariant_of-result
invariant_of-result c = rw c.new.ensures (entries_none _)
