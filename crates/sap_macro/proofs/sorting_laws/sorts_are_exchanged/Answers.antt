use Rattle.sap_macro.proofs.SortedScopes.{sorts_are_exchanged}
use Rattle.sap_macro.proofs.sorting_laws.sorts_are_exchanged.Goals as goal

pub returns : goal.returns
returns c = sorts_are_exchanged
