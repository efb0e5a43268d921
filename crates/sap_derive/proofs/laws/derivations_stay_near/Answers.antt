use Rattle.sap_derive.proofs.Nearness.{derivations-stay-near}
use Rattle.sap_derive.proofs.laws.derivations_stay_near.Goals as goal

pub returns : goal.returns
returns c = derivations-stay-near c.normal_forms_are_unique.ensures c.symbols_reduce_once.ensures
