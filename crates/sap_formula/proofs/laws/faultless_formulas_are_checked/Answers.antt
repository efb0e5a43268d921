use Rattle.sap_formula.proofs.Checks.{check_law, closed_law}
use Rattle.sap_formula.proofs.laws.faultless_formulas_are_checked.Goals as goal

pub returns-clause-checked : goal.returns-clause-checked
returns-clause-checked c = check_law

pub returns-clause-closed : goal.returns-clause-closed
returns-clause-closed c = closed_law
