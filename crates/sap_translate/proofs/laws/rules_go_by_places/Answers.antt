use Rattle.sap_translate.proofs.Parts.Places.{rules_go_by_places}
use Rattle.sap_translate.proofs.laws.rules_go_by_places.Goals as goal

pub returns : goal.returns
returns c = record { rules = rules_go_by_places }
