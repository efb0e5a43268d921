use Rattle.std.proofs.Common.{[]}
use Rattle.sap_statements.proofs.Sorting.{form_twice, form_kept, form_over_before, form_names_kept}
use Rattle.sap_statements.proofs.laws.sorts_are_kept.Goals as goal

pub returns-clause-twice : goal.returns-clause-twice
returns-clause-twice c = form_twice []

pub returns-clause-tidy : goal.returns-clause-tidy
returns-clause-tidy c = λ g f h. form_kept g [] f h

pub returns-clause-over : goal.returns-clause-over
returns-clause-over c = λ g f h. form_over_before g [] f h

pub returns-clause-names : goal.returns-clause-names
returns-clause-names c = λ most f h. form_names_kept most [] f h
