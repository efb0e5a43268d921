use Rattle.sap_process.specs.Proc.{proc, node_count}
use Rattle.sap_lines.proofs.place.+add_process.Given as goal

abbrev pub decreases-add_process : goal.decreases-add_process
decreases-add_process l = node_count (proc l.p.now)
