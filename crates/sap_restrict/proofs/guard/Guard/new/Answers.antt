use Rattle.std.proofs.Common.{[], sym, subst}
use Rattle.sap_restrict.specs.Stands.{KeepsTrace}
use Rattle.sap_restrict.proofs.Telling.{fresh_stands}
use Rattle.sap_restrict.proofs.guard.Guard.new.Goals as goal

pub returns : goal.returns
returns c = subst (λ m. KeepsTrace m []) (sym c.fresh.ensures) (fresh_stands c.normal_terms_decide.ensures)
