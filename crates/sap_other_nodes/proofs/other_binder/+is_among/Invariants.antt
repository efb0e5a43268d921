use Rattle.std.proofs.Common.{length}
use Rattle.sap_other_nodes.proofs.other_binder.+is_among.Given as goal

abbrev pub decreases-is_among : goal.decreases-is_among
decreases-is_among l = length l.vars.now
