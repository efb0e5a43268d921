use Rattle.std.proofs.Common.{◌+◌, ◌*◌, length}
use Rattle.sap_other_nodes.proofs.other_lock.+depth.Given as goal

abbrev pub decreases-depth_from : goal.decreases-depth_from
decreases-depth_from l = 2 * length l.digits.now + 1

abbrev pub decreases-depth_below : goal.decreases-depth_below
decreases-depth_below l = 2 * length l.rest.now + 2
