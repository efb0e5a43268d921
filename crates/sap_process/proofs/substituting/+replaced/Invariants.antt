use Rattle.std.proofs.Common.{◌+◌, ◌*◌}
use Rattle.sap_process.specs.Proc.{proc, node_count}
use Rattle.sap_process.proofs.substituting.+replaced.Given as goal

abbrev pub decreases-replaced : goal.decreases-replaced
decreases-replaced l = 8 * node_count (proc l.p.now) + 1

abbrev pub decreases-replaced_over : goal.decreases-replaced_over
decreases-replaced_over l = 8 * node_count (proc l.q.now) + 2

abbrev pub decreases-replaced_name : goal.decreases-replaced_name
decreases-replaced_name l = 8 * node_count (proc l.q.now) + 3

abbrev pub decreases-replaced_below : goal.decreases-replaced_below
decreases-replaced_below l = 8 * node_count (proc l.p.now) + 2

abbrev pub decreases-replaced_both : goal.decreases-replaced_both
decreases-replaced_both l = 8 * (node_count (proc l.q.now) + node_count (proc l.r.now)) + 4

abbrev pub decreases-replaced_lookup : goal.decreases-replaced_lookup
decreases-replaced_lookup l = 8 * (node_count (proc l.p.now) + node_count (proc l.q.now)) + 4
