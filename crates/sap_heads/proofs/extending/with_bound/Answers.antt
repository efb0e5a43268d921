use Rattle.sap_heads.proofs.Binds.{one_bound}
use Rattle.sap_heads.proofs.extending.with_bound.Goals as goal

pub returns-in-Ok : goal.returns-in-Ok
returns-in-Ok c = rw c.in-Ok.ensures (one_bound c.args.table.now c.each_is_ground.ensures c.args.env.now c.requires.env (record { var = c.args.var.now; id = c.args.id }) c.requires.number c.requires.new c.instances_of_processes.ensures.twice)
