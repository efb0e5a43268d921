use Rattle.sap_read.proofs.SpelledBodies.{spelled_in}
use Rattle.sap_read.proofs.laws.bodies_are_spelled.Goals as goal

pub returns : goal.returns
returns c = λ g z ts x cut is b p r h. spelled_in p r b h
