use Rattle.sap_macro.proofs.SortedScopes.{closed_kept, definitions_kept, names_stay, order_kept, taken_kept, uses_kept}
use Rattle.sap_macro.proofs.sorting_laws.sorting_keeps_scopes.Goals as goal

pub returns-clause-closed : goal.returns-clause-closed
returns-clause-closed c = closed_kept

pub returns-clause-uses : goal.returns-clause-uses
returns-clause-uses c = uses_kept

pub returns-clause-taken : goal.returns-clause-taken
returns-clause-taken c = taken_kept

pub returns-clause-definitions : goal.returns-clause-definitions
returns-clause-definitions c = definitions_kept

pub returns-clause-order : goal.returns-clause-order
returns-clause-order c = order_kept

pub returns-clause-names : goal.returns-clause-names
returns-clause-names c = names_stay
