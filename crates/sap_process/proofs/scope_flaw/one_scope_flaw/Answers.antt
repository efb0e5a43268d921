use Rattle.sap_process.proofs.OneFlaw.{one_scope_flaw}
use Rattle.sap_process.proofs.scope_flaw.one_scope_flaw.Goals as goal

pub returns : goal.returns
returns c = one_scope_flaw
