use Rattle.sap_uses.proofs.OneCause.{one_cause}
use Rattle.sap_uses.proofs.laws.one_macro_cause.Goals as goal

pub returns : goal.returns
returns c = one_cause c.one_scope_flaw.ensures
