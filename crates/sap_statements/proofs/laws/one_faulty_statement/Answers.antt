use Rattle.sap_statements.proofs.Faults.{one_faulty, never_both, faulty_or_not}
use Rattle.sap_statements.proofs.laws.one_faulty_statement.Goals as goal

pub returns-clause-one : goal.returns-clause-one
returns-clause-one c = λ g r. one_faulty g r c.one_fault.ensures.fault c.one_fault.ensures.none

pub returns-clause-never : goal.returns-clause-never
returns-clause-never c = λ g r. never_both g r c.one_fault.ensures.fault c.one_fault.ensures.none

pub returns-clause-some : goal.returns-clause-some
returns-clause-some c = λ g r. faulty_or_not g r c.some_fault.ensures
