use Rattle.sap_share.proofs.NodeKeys.{name_kept}
use Rattle.sap_share.proofs.nodes.ready_both.Goals as goal

pub returns-clause-first : goal.returns-clause-first
returns-clause-first c = name_kept c.number_node.new.names c.number_node-2.new.names c.number_node-2.ensures.keeps c.args.first.now c.in_ok-name.name c.in_ok-name.ensures.number
