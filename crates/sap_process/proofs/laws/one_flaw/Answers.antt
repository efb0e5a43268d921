use Rattle.std.proofs.Common.{[]}
use Rattle.sap_process.proofs.OneFlaw.{one_flaw, no_flaw}
use Rattle.sap_process.proofs.laws.one_flaw.Goals as goal

pub returns-clause-flaw : goal.returns-clause-flaw
returns-clause-flaw c = λ g p. one_flaw g [] p

pub returns-clause-none : goal.returns-clause-none
returns-clause-none c = λ g p. no_flaw g [] p

pub returns-clause-flaw_in : goal.returns-clause-flaw_in
returns-clause-flaw_in c = one_flaw

pub returns-clause-none_in : goal.returns-clause-none_in
returns-clause-none_in c = no_flaw
