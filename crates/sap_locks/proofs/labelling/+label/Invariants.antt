use Rattle.std.proofs.Common.{◌+◌, ◌*◌}
use Rattle.sap_process.specs.Proc.{proc, node_count}
use Rattle.sap_locks.proofs.labelling.+label.Given as goal

abbrev pub decreases-label : goal.decreases-label
decreases-label l = 2 * node_count (proc l.p.now)

abbrev pub decreases-label_child : goal.decreases-label_child
decreases-label_child l = 2 * node_count (proc l.q.now.value) + 1

abbrev pub decreases-label_both : goal.decreases-label_both
decreases-label_both l = 2 * (node_count (proc l.q.now.value) + node_count (proc l.r.now.value)) + 1

abbrev pub decreases-label_locked : goal.decreases-label_locked
decreases-label_locked l = 2 * node_count (proc l.q.now.value) + 1

abbrev pub decreases-label_unlocked : goal.decreases-label_unlocked
decreases-label_unlocked l = 2 * node_count (proc l.q.now.value) + 1
