use Rattle.sap_translate.proofs.Premises.RuleNames.{named_by_places}
use Rattle.sap_translate.proofs.laws.rules_name_their_places.Goals as goal

pub returns : goal.returns
returns c = named_by_places
