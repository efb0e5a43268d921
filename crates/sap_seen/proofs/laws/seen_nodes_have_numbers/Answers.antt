use Rattle.sap_seen.proofs.Nodes.{numbers_of_all}
use Rattle.sap_seen.proofs.laws.seen_nodes_have_numbers.Goals as goal

pub returns : goal.returns
returns c = numbers_of_all
