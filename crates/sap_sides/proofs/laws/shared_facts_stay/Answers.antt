use Rattle.sap_sides.proofs.Kept.{stays}
use Rattle.sap_sides.proofs.laws.shared_facts_stay.Goals as goal

pub returns : goal.returns
returns c = stays
