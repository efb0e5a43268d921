use Rattle.sap_macro.proofs.OtherDefinitions.{uses_among_are_instances}
use Rattle.sap_macro.proofs.laws.uses_are_instances.Goals as goal

pub returns : goal.returns
returns c = uses_among_are_instances
