use Rattle.sap_head_words.proofs.OneShape.{AreSame, one_head}
use Rattle.sap_head_words.proofs.laws.one_head.Goals as goal

pub returns : goal.returns
returns c = λ g h q a ns ms r s.
    let same : AreSame = record {
      term = c.nodes_and_words.ensures.same;
      ended = c.facts_and_words.ensures.same_term;
      arguments = c.facts_and_words.ensures.same_arguments;
      fact = c.facts_and_words.ensures.same_fact;
      facts = c.facts_and_words.ensures.same_facts;
    } in
    one_head same g h q a r s
