use Rattle.sap_read.proofs.LocatedItems.{one_place_each, plain_items}
use Rattle.sap_read.proofs.laws.located_items.Goals as goal

pub returns-clause-plain : goal.returns-clause-plain
returns-clause-plain c = λ g cut is r. plain_items c.located_processes.ensures.plain r

pub returns-clause-one : goal.returns-clause-one
returns-clause-one c = λ g cut is js r s. one_place_each c.located_processes.ensures.whole r s
