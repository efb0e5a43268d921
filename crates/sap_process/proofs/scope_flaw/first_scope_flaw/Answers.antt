use Rattle.std.proofs.Common.{◌≡◌}
use Rattle.std.proofs.lemmas.Result.{IfOk-weaker}
use Rattle.sap_process.proofs.ScopeFirsts.{scope-told, scope-untold}
use Rattle.sap_process.proofs.scope_flaw.first_scope_flaw.Goals as goal

pub returns-clause-found : goal.returns-clause-found
returns-clause-found c = λ g. IfOk-weaker c.first_flaw.result _ _ (λ o e. scope-told _ g _ _ o e) c.first_flaw.ensures

pub returns-clause-none : goal.returns-clause-none
returns-clause-none c = λ g. IfOk-weaker c.first_flaw.result _ _ (λ o e. scope-untold _ g _ _ o e) c.first_flaw.ensures
