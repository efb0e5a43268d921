use Rattle.std.proofs.Common.{◌+◌, ◌*◌}
use Rattle.sap_process.specs.Proc.{proc, node_count}
use Rattle.sap_other_nodes.proofs.other_lock.+ends.Given as goal

abbrev pub decreases-ends : goal.decreases-ends
decreases-ends l = 2 * node_count (proc l.p.now)

abbrev pub decreases-ends_locked : goal.decreases-ends_locked
decreases-ends_locked l = 2 * node_count (proc l.q.now) + 1

abbrev pub decreases-ends_unlocked : goal.decreases-ends_unlocked
decreases-ends_unlocked l = 2 * node_count (proc l.q.now) + 1
