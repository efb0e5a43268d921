use Rattle.sap_deduce.proofs.Transitive.{deduced_is_deducible, deducible_from_all}
use Rattle.sap_deduce.proofs.Same.{entries_give_the_same}
use Rattle.sap_deduce.proofs.laws.deducing_is_transitive.Goals as goal

pub returns-clause-through : goal.returns-clause-through
returns-clause-through c = deduced_is_deducible c.normal_forms_are_unique.ensures

pub returns-clause-from_all : goal.returns-clause-from_all
returns-clause-from_all c = deducible_from_all

pub returns-clause-entries : goal.returns-clause-entries
returns-clause-entries c = entries_give_the_same c.leaves_are_normal.ensures c.normal_forms_are_unique.ensures
