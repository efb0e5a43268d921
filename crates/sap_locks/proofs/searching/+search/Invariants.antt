use Rattle.std.proofs.Common.{◌+◌, ◌*◌}
use Rattle.sap_process.specs.Proc.{proc, node_count}
use Rattle.sap_locks.proofs.searching.+search.Given as goal

abbrev pub decreases-search : goal.decreases-search
decreases-search l = 4 * node_count (proc l.p.now)

abbrev pub decreases-search_both : goal.decreases-search_both
decreases-search_both l = 4 * (node_count (proc l.q.now) + node_count (proc l.r.now)) + 2

abbrev pub decreases-search_child : goal.decreases-search_child
decreases-search_child l = 4 * node_count (proc l.q.now) + 1
