use Rattle.sap_process.proofs.ScopeFlawsByHand.{by_sort, flawed, in_scope_alone, near}
use Rattle.sap_process.proofs.scope_flaw.scope_flaws_by_hand.Goals as goal

pub returns-clause-flawed : goal.returns-clause-flawed
returns-clause-flawed c = flawed

pub returns-clause-near : goal.returns-clause-near
returns-clause-near c = near

pub returns-clause-in_scope_alone : goal.returns-clause-in_scope_alone
returns-clause-in_scope_alone c = in_scope_alone

pub returns-clause-by_sort : goal.returns-clause-by_sort
returns-clause-by_sort c = by_sort
