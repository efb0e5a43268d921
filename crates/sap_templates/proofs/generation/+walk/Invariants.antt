use Rattle.std.proofs.Common.{◌+◌, ◌*◌}
use Rattle.sap_process.specs.Proc.{proc, node_count}
use Rattle.sap_templates.proofs.generation.+walk.Given as goal

abbrev pub decreases-add_places : goal.decreases-add_places
decreases-add_places l = 8 * node_count (proc l.p.now) + 3

abbrev pub decreases-add_from : goal.decreases-add_from
decreases-add_from l = 8 * node_count (proc l.p.now) + 2

abbrev pub decreases-add_below : goal.decreases-add_below
decreases-add_below l = 8 * node_count (proc l.p.now) + 1

abbrev pub decreases-add_child : goal.decreases-add_child
decreases-add_child l = 8 * node_count (proc l.q.now) + 4
