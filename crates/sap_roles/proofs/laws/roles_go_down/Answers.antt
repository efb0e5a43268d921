use Rattle.std.proofs.Common.{refl}
use Rattle.sap_roles.proofs.Longer.{ends, none_yet, stays}
use Rattle.sap_roles.proofs.laws.roles_go_down.Goals as goal

pub returns-clause-stays : goal.returns-clause-stays
returns-clause-stays c = λ ds p behind path e a b h g. stays path e h g

pub returns-clause-ends : goal.returns-clause-ends
returns-clause-ends c = λ ds p behind path e a b h g. ends path e h g

pub returns-clause-none_yet : goal.returns-clause-none_yet
returns-clause-none_yet c = λ ds p behind path e b h g. none_yet path e h g refl
