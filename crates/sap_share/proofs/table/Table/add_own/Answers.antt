use Rattle.sap_share.proofs.Came.{came_alone, if_both}
use Rattle.sap_share.proofs.table.Table.add_own.Goals as goal

pub returns-clause-came : goal.returns-clause-came
returns-clause-came c = if_both c.add.result (λ k last is. came_alone c.args.self.now c.add.new.self _ k last is) c.add.ensures.number c.add.ensures.ok
