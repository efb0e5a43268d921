use Rattle.sap_translate.proofs.Premises.LeftsOver.{ready_made}
use Rattle.sap_translate.proofs.Premises.OwnNames.{own_names}
use Rattle.sap_translate.proofs.laws.rules_are_well_made.Goals as goal

pub returns-clause-made : goal.returns-clause-made
returns-clause-made c = ready_made

pub returns-clause-names : goal.returns-clause-names
returns-clause-names c = own_names
