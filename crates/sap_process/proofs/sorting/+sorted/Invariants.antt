use Rattle.std.proofs.Common.{◌+◌, ◌*◌}
use Rattle.sap_process.specs.Proc.{proc, node_count}
use Rattle.sap_process.proofs.sorting.+sorted.Given as goal

abbrev pub decreases-sorted : goal.decreases-sorted
decreases-sorted l = 8 * node_count (proc l.p.now) + 1

abbrev pub decreases-sorted_over : goal.decreases-sorted_over
decreases-sorted_over l = 8 * node_count (proc l.q.now) + 3

abbrev pub decreases-sorted_with : goal.decreases-sorted_with
decreases-sorted_with l = 8 * node_count (proc l.p.now) + 3

abbrev pub decreases-sorted_both : goal.decreases-sorted_both
decreases-sorted_both l = 8 * (node_count (proc l.q.now) + node_count (proc l.r.now)) + 5

abbrev pub decreases-sorted_lookup : goal.decreases-sorted_lookup
decreases-sorted_lookup l = 8 * (node_count (proc l.p.now) + node_count (proc l.q.now)) + 5
