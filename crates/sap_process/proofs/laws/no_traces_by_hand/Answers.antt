use Rattle.sap_process.proofs.NoTraces.{no_event, no_leak}
use Rattle.sap_process.proofs.laws.no_traces_by_hand.Goals as goal

pub returns-clause-nothing : goal.returns-clause-nothing
returns-clause-nothing c = no_event c.normal_forms_are_unique.ensures

pub returns-clause-secret : goal.returns-clause-secret
returns-clause-secret c = no_leak c.normal_forms_are_unique.ensures
