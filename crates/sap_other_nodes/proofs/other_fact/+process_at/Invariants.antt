use Rattle.std.proofs.Common.{length}
use Rattle.sap_other_nodes.proofs.other_fact.+process_at.Given as goal

abbrev pub decreases-process_at : goal.decreases-process_at
decreases-process_at l = length l.digits.now
