use Rattle.sap_translate.proofs.PlaceLaws.{found_by_name, origin, placed}
use Rattle.sap_translate.proofs.place_laws.rules_are_found_by_name.Goals as goal

pub returns : goal.returns
returns c = record { named = found_by_name; origin = origin; placed = placed }
