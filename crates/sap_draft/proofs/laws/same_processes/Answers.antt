use Rattle.sap_draft.proofs.Signatures.{par_too}
use Rattle.sap_draft.proofs.laws.same_processes.Goals as goal

pub returns : goal.returns
returns c = λ g h m n p a b r. par_too c.term_laws.ensures.spelled h r
