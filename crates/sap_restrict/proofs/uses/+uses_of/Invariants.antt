use Rattle.sap_process.specs.Proc.{proc, node_count}
use Rattle.sap_restrict.proofs.uses.+uses_of.Given as goal

abbrev pub decreases-uses_of : goal.decreases-uses_of
decreases-uses_of l = node_count (proc l.p.now)
