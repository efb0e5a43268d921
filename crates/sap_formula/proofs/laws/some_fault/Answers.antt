use Rattle.sap_formula.proofs.Counting.{some_fault}
use Rattle.sap_formula.proofs.laws.some_fault.Goals as goal

pub returns : goal.returns
returns c = some_fault
