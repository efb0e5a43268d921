use Rattle.std.specs.Prelude.{[]}
use Rattle.sap_origin.proofs.Ordered.{stands_for, stands_nowhere}
use Rattle.sap_origin.proofs.laws.names_stand_for_definitions.Goals as goal

pub returns-clause-stand : goal.returns-clause-stand
returns-clause-stand c = stands_for []

pub returns-clause-nothing : goal.returns-clause-nothing
returns-clause-nothing c = stands_nowhere
