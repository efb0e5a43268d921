use Rattle.std.proofs.Common.{refl}
use Rattle.sap_uses.proofs.Resolving.{resolved}
use Rattle.sap_uses.proofs.laws.names_cost_their_bodies.Goals as goal

pub returns : goal.returns
returns c = λ ds k d order e. (resolved ds d.name d order (record { at = k; stands = e; name_is = refl })).cost
