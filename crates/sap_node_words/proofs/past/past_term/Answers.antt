use Rattle.sap_node_words.proofs.FactWalks.{past_is}
use Rattle.sap_node_words.proofs.Walks.{term_goes}
use Rattle.sap_node_words.proofs.past.past_term.Goals as goal

pub returns : goal.returns
returns c = λ g b r e. past_is _ _ _ _ _ _ c.walk_term.ensures (term_goes r c.args.node e)
