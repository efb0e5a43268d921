use Rattle.sap_process.specs.Proc.{proc, node_count}
use Rattle.sap_process.proofs.process.Process.+levels.Given as goal

abbrev pub decreases-levels : goal.decreases-levels
decreases-levels l = node_count (proc l.self.now)
