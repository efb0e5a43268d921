use Rattle.sap_formula.proofs.OneFault.{one_fault, no_fault_left}
use Rattle.sap_formula.proofs.laws.one_fault.Goals as goal

pub returns-clause-fault : goal.returns-clause-fault
returns-clause-fault c = one_fault

pub returns-clause-none : goal.returns-clause-none
returns-clause-none c = no_fault_left
