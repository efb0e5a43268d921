use Rattle.sap_uses.proofs.Closed.{unflawed_closed}
use Rattle.sap_uses.proofs.laws.unflawed_bodies_are_closed.Goals as goal

pub returns : goal.returns
returns c = unflawed_closed
