use Rattle.sap_process.specs.Proc.{proc, node_count}
use Rattle.sap_process.proofs.process.Process.+nodes.Given as goal

abbrev pub decreases-nodes : goal.decreases-nodes
decreases-nodes l = node_count (proc l.self.now)
