use Rattle.std.proofs.Common.{◌+◌, ◌*◌}
use Rattle.sap_process.specs.Proc.{proc, node_count}
use Rattle.sap_process.proofs.walk.+search.Given as goal

abbrev pub decreases-search : goal.decreases-search
decreases-search l = 8 * node_count (proc l.p.now) + 3

abbrev pub decreases-search_below : goal.decreases-search_below
decreases-search_below l = 8 * node_count (proc l.p.now) + 2

abbrev pub decreases-search_next : goal.decreases-search_next
decreases-search_next l = 8 * node_count (proc l.q.now) + 6

abbrev pub decreases-search_with : goal.decreases-search_with
decreases-search_with l = 8 * node_count (proc l.q.now) + 5

abbrev pub decreases-search_child : goal.decreases-search_child
decreases-search_child l = 8 * node_count (proc l.q.now) + 4

abbrev pub decreases-search_both : goal.decreases-search_both
decreases-search_both l = 8 * (node_count (proc l.q.now) + node_count (proc l.r.now)) + 6

abbrev pub decreases-search_branches : goal.decreases-search_branches
decreases-search_branches l = 8 * (node_count (proc l.q.now) + node_count (proc l.r.now)) + 6
