use Rattle.sap_macro.proofs.SameSizes.{one_level_count, one_node_count}
use Rattle.sap_macro.proofs.laws.sizes_are_one.Goals as goal

pub returns-clause-nodes : goal.returns-clause-nodes
returns-clause-nodes c = one_node_count

pub returns-clause-levels : goal.returns-clause-levels
returns-clause-levels c = one_level_count
