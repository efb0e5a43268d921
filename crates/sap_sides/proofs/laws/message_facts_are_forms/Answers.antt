use Rattle.sap_sides.proofs.Plain.{are_forms}
use Rattle.sap_sides.proofs.laws.message_facts_are_forms.Goals as goal

pub returns : goal.returns
returns c = are_forms c.normal_forms_are_unique.ensures
