use Rattle.sap_origin.proofs.Plain.{plain_definitions}
use Rattle.sap_origin.proofs.laws.located_definitions_are_written.Goals as goal

pub returns : goal.returns
returns c = plain_definitions c.located_is_written.ensures
