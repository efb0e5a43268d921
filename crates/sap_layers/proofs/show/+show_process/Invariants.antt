use Rattle.sap_process.specs.Proc.{proc, node_count}
use Rattle.sap_layers.proofs.show.+show_process.Given as goal

abbrev pub decreases-show_process : goal.decreases-show_process
decreases-show_process l = node_count (proc l.p.now)
