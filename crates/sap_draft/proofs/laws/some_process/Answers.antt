use Rattle.sap_draft.proofs.WholeProcesses.{some_whole}
use Rattle.sap_draft.proofs.laws.some_process.Goals as goal

pub returns : goal.returns
returns c = some_whole c.term_laws.ensures.read c.term_laws.ensures.spelled
