use Rattle.sap_macro.proofs.NewNames.{new_is_free, new_is_least}
use Rattle.sap_macro.proofs.laws.new_names_are_least.Goals as goal

pub returns-clause-least : goal.returns-clause-least
returns-clause-least c = new_is_least

pub returns-clause-free : goal.returns-clause-free
returns-clause-free c = new_is_free
