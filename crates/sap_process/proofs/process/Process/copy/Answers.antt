use Rattle.sap_process.proofs.Unboxed.{holds_of_value}
use Rattle.sap_process.proofs.process.Process.copy.Goals as goal

pub returns : goal.returns
returns c = holds_of_value c.copied.result c.unboxed.result _ c.unboxed.ensures c.copied.ensures
