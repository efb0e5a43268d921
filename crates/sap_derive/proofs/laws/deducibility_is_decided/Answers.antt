use Rattle.sap_derive.proofs.Decided.{deducibility-decided}
use Rattle.sap_derive.proofs.laws.deducibility_is_decided.Goals as goal

pub returns : goal.returns
returns c = deducibility-decided c.normal_forms_are_unique.ensures c.symbols_reduce_once.ensures
