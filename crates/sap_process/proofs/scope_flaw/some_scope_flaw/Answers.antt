use Rattle.sap_process.proofs.ScopeFirsts.{some-scope-flaw}
use Rattle.sap_process.proofs.scope_flaw.some_scope_flaw.Goals as goal

pub returns : goal.returns
returns c = some-scope-flaw
