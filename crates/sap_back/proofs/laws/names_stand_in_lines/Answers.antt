use Rattle.sap_back.proofs.NamedIn.{turns_named}
use Rattle.sap_back.proofs.laws.names_stand_in_lines.Goals as goal

pub returns : goal.returns
returns c = turns_named
