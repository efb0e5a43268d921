use Rattle.sap_macro.proofs.OtherDefinitions.{expansions_among_are_one}
use Rattle.sap_macro.proofs.laws.expansions_are_one.Goals as goal

pub returns : goal.returns
returns c = expansions_among_are_one
