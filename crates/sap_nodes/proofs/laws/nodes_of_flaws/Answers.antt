use Rattle.sap_nodes.proofs.FirstNodes.{one_node}
use Rattle.sap_nodes.proofs.FlawsAtNodes.{some_node}
use Rattle.sap_nodes.proofs.NodesOfFlaws.{place_of_node}
use Rattle.sap_nodes.proofs.laws.nodes_of_flaws.Goals as goal

pub returns-clause-one : goal.returns-clause-one
returns-clause-one c = one_node

pub returns-clause-some : goal.returns-clause-some
returns-clause-some c = some_node

pub returns-clause-place : goal.returns-clause-place
returns-clause-place c = place_of_node
