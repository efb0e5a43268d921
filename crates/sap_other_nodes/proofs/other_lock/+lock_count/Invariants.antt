use Rattle.sap_process.specs.Proc.{proc, node_count}
use Rattle.sap_other_nodes.proofs.other_lock.+lock_count.Given as goal

abbrev pub decreases-lock_count : goal.decreases-lock_count
decreases-lock_count l = node_count (proc l.p.now)
