use Rattle.sap_sides.proofs.Plain.{met}
use Rattle.sap_sides.proofs.laws.plain_facts_are_met.Goals as goal

pub returns : goal.returns
returns c = met
