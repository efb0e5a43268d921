use Rattle.std.proofs.Common.{◌+◌, ◌*◌}
use Rattle.sap_process.specs.Proc.{proc, node_count}
use Rattle.sap_nodes.proofs.clash.+way.Given as goal

abbrev pub decreases-along : goal.decreases-along
decreases-along l = 2 * node_count (proc l.p.now) + 1

abbrev pub decreases-below : goal.decreases-below
decreases-below l = 2 * node_count (proc l.p.now)
