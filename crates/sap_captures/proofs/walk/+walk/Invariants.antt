use Rattle.std.proofs.Common.{◌+◌, ◌*◌}
use Rattle.sap_process.specs.Proc.{proc, node_count}
use Rattle.sap_captures.proofs.walk.+walk.Given as goal

abbrev pub decreases-walk_from : goal.decreases-walk_from
decreases-walk_from l = 8 * node_count (proc l.p.now) + 3

abbrev pub decreases-walk_below : goal.decreases-walk_below
decreases-walk_below l = 8 * node_count (proc l.p.now) + 2

abbrev pub decreases-walk_with : goal.decreases-walk_with
decreases-walk_with l = 8 * node_count (proc l.q.now) + 5

abbrev pub decreases-walk_child : goal.decreases-walk_child
decreases-walk_child l = 8 * node_count (proc l.q.now) + 4

abbrev pub decreases-walk_both : goal.decreases-walk_both
decreases-walk_both l = 8 * (node_count (proc l.q.now) + node_count (proc l.r.now)) + 6

abbrev pub decreases-walk_branches : goal.decreases-walk_branches
decreases-walk_branches l = 8 * (node_count (proc l.q.now) + node_count (proc l.r.now)) + 6
