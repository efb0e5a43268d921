use Rattle.sap_tool.proofs.Endings.{ended}
use Rattle.sap_tool.proofs.top.run.Goals as goal

pub returns : goal.returns
returns g c = ended _ _ c.deliver.result (c.ending-ending.ensures _ _) c.deliver.ensures
