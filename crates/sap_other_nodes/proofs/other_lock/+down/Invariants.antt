use Rattle.std.proofs.Common.{◌+◌, ◌*◌, length}
use Rattle.sap_other_nodes.proofs.other_lock.+down.Given as goal

abbrev pub decreases-down : goal.decreases-down
decreases-down l = 2 * length l.digits.now + 1

abbrev pub decreases-below : goal.decreases-below
decreases-below l = 2 * length l.rest.now + 2
