use Rattle.sap_node_words.proofs.FactWalks.{fact_goes, past_is}
use Rattle.sap_node_words.proofs.past.past_fact.Goals as goal

pub returns : goal.returns
returns c = λ g b r. past_is _ _ _ _ _ _ c.walk_fact.ensures (fact_goes r c.args.node)
