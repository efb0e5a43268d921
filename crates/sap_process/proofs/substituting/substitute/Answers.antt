use Rattle.sap_process.proofs.Unboxed.{holds_of_value}
use Rattle.sap_process.proofs.substituting.substitute.Goals as goal

pub returns : goal.returns
returns c = holds_of_value c.replaced.result c.unboxed.result _ c.unboxed.ensures c.replaced.ensures
