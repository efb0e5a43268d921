use Rattle.sap_macro.proofs.PlainUses.{plain_uses_have_parameters}
use Rattle.sap_macro.proofs.laws.plain_uses_have_parameters.Goals as goal

pub returns : goal.returns
returns c = plain_uses_have_parameters
