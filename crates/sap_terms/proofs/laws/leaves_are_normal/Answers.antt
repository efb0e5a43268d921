use Rattle.sap_terms.proofs.Leaves.{leaves_normal}
use Rattle.sap_terms.proofs.laws.leaves_are_normal.Goals as goal

pub returns : goal.returns
returns c = leaves_normal
