use Rattle.sap_statements.proofs.OwnSorts.{own_sorts, faultless_over, sorted_over}
use Rattle.sap_statements.proofs.laws.faultless_formulas_keep_signs.Goals as goal

pub returns-clause-sorts : goal.returns-clause-sorts
returns-clause-sorts c = λ g r f free. own_sorts g r f free

pub returns-clause-over : goal.returns-clause-over
returns-clause-over c = λ g r f free. faultless_over c.faultless_formulas_are_checked.ensures.checked g r f free

pub returns-clause-sorted : goal.returns-clause-sorted
returns-clause-sorted c = λ g r f free. sorted_over c.faultless_formulas_are_checked.ensures.checked g r f free
