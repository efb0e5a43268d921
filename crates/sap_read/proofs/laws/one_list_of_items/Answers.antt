use Rattle.sap_read.proofs.ItemsRead.{one_items}
use Rattle.sap_read.proofs.OneFile.{same_items}
use Rattle.sap_read.proofs.laws.one_list_of_items.Goals as goal

pub returns-clause-cut : goal.returns-clause-cut
returns-clause-cut c = c.item_laws.ensures.one_cut

pub returns-clause-items : goal.returns-clause-items
returns-clause-items c = λ g cut is js r s. one_items c.item_laws.ensures c.statement_laws.ensures c.process_laws.ensures g cut is js r s

pub returns-clause-own : goal.returns-clause-own
returns-clause-own c = same_items c.item_laws.ensures c.statement_laws.ensures c.process_laws.ensures
