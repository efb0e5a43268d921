use Rattle.sap_process.specs.Proc.{proc, node_count}
use Rattle.sap_nodes.proofs.clash.+note_places.Given as goal

abbrev pub decreases-note_places : goal.decreases-note_places
decreases-note_places l = node_count (proc l.p.now)
