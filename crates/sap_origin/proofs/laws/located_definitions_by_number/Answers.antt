use Rattle.sap_origin.proofs.Numbered.{located_at, name_at}
use Rattle.sap_origin.proofs.laws.located_definitions_by_number.Goals as goal

pub returns-clause-located : goal.returns-clause-located
returns-clause-located c = located_at

pub returns-clause-named : goal.returns-clause-named
returns-clause-named c = name_at
