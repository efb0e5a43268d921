use Rattle.sap_node_words.proofs.FactWalks.{facts_go, past_is}
use Rattle.sap_node_words.proofs.past.past_facts.Goals as goal

pub returns : goal.returns
returns c = λ g m s w b r. past_is _ _ _ _ _ _ c.walk_facts.ensures (facts_go r c.args.node)
