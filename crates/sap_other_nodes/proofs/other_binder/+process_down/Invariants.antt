use Rattle.std.proofs.Common.{length}
use Rattle.sap_other_nodes.proofs.other_binder.+process_down.Given as goal

abbrev pub decreases-process_down : goal.decreases-process_down
decreases-process_down l = length l.digits.now
