use Rattle.std.proofs.Common.{◌+◌, ◌*◌}
use Rattle.sap_process.specs.Proc.{proc, node_count}
use Rattle.sap_other_nodes.proofs.other_fact.+seek.Given as goal

abbrev pub decreases-seek : goal.decreases-seek
decreases-seek l = 2 * node_count (proc l.p.now)

abbrev pub decreases-seek_child : goal.decreases-seek_child
decreases-seek_child l = 2 * node_count (proc l.q.now) + 1
