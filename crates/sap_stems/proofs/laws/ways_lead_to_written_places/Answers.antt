use Rattle.sap_stems.specs.WrittenPlaces.{of_process, place_itself}
use Rattle.sap_stems.proofs.WrittenStems.{place_along}
use Rattle.sap_stems.proofs.laws.ways_lead_to_written_places.Goals as goal

pub returns : goal.returns
returns c = λ ds v p q behind path z m. place_along ds p behind v m (of_process place_itself)
