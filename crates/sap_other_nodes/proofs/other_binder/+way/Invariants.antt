use Rattle.std.proofs.Common.{◌+◌, ◌*◌, length}
use Rattle.sap_other_nodes.proofs.other_binder.+way.Given as goal

abbrev pub decreases-along : goal.decreases-along
decreases-along l = 2 * length l.digits.now + 1

abbrev pub decreases-along_from : goal.decreases-along_from
decreases-along_from l = 2 * length l.rest.now + 2
