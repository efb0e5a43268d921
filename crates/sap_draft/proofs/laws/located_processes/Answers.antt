use Rattle.sap_draft.proofs.LocatedProcesses.{par_plain}
use Rattle.sap_draft.proofs.Processes.{one_located}
use Rattle.sap_draft.proofs.WholeProcesses.{at_last}
use Rattle.sap_draft.proofs.laws.located_processes.Goals as goal

pub returns-clause-plain : goal.returns-clause-plain
returns-clause-plain c = λ g m n p a b r. par_plain r

pub returns-clause-one : goal.returns-clause-one
returns-clause-one c = λ g m n k p q a b d r s e f. let same = one_located c.term_laws.ensures.read r s e f in same.0

pub returns-clause-whole : goal.returns-clause-whole
returns-clause-whole c = λ g m n k p q a r s. let same = one_located c.term_laws.ensures.read r s at_last at_last in same.0
