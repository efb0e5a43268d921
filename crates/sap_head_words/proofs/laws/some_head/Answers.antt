use Rattle.sap_head_words.proofs.SomeHeads.{AreCounted, par_place, seq_place}
use Rattle.sap_head_words.proofs.laws.some_head.Goals as goal

pub returns-clause-parallel : goal.returns-clause-parallel
returns-clause-parallel c = λ g m p n a b r q h.
    let counted : AreCounted = record {
      term = c.nodes_and_words.ensures.nodes;
      arguments = c.facts_and_words.ensures.arguments;
      fact = c.facts_and_words.ensures.fact;
      facts = c.facts_and_words.ensures.facts;
    } in
    par_place counted r h

pub returns-clause-sequence : goal.returns-clause-sequence
returns-clause-sequence c = λ g m e p n a b r q h.
    let counted : AreCounted = record {
      term = c.nodes_and_words.ensures.nodes;
      arguments = c.facts_and_words.ensures.arguments;
      fact = c.facts_and_words.ensures.fact;
      facts = c.facts_and_words.ensures.facts;
    } in
    seq_place counted r h
