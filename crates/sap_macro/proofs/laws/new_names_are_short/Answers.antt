use Rattle.sap_macro.proofs.NewNames.{new_is_short}
use Rattle.sap_macro.proofs.laws.new_names_are_short.Goals as goal

pub returns : goal.returns
returns c = new_is_short
