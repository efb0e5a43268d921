use Rattle.sap_node_words.proofs.FactWalks.{past_is}
use Rattle.sap_node_words.proofs.Walks.{args_go}
use Rattle.sap_node_words.proofs.past.past_args.Goals as goal

pub returns : goal.returns
returns c = λ g b r. past_is _ _ _ _ _ _ c.walk_args.ensures (args_go r c.args.node)
