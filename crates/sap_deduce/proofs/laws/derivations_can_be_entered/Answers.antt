use Rattle.sap_deduce.proofs.Derivations.{derivation-entered}
use Rattle.sap_deduce.proofs.laws.derivations_can_be_entered.Goals as goal

pub returns : goal.returns
returns c = derivation-entered
