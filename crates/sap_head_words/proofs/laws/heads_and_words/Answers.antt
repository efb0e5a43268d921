use Rattle.sap_head_words.proofs.HeadStands.{AreStanding, head_stands}
use Rattle.sap_head_words.proofs.NoSigns.{node_fits}
use Rattle.sap_head_words.proofs.laws.heads_and_words.Goals as goal

pub returns-clause-words : goal.returns-clause-words
returns-clause-words c = λ g q a ns h.
    let standing : AreStanding = record {
      term_within = c.nodes_and_words.ensures.within;
      term = c.nodes_and_words.ensures.words;
      arguments_within = c.facts_and_words.ensures.within;
      arguments = c.facts_and_words.ensures.words;
    } in
    head_stands standing h

pub returns-clause-no_fact : goal.returns-clause-no_fact
returns-clause-no_fact c = λ g x f w a h. node_fits h

pub returns-clause-no_variable : goal.returns-clause-no_variable
returns-clause-no_variable c = λ g x w a h. node_fits h

pub returns-clause-no_binder : goal.returns-clause-no_binder
returns-clause-no_binder c = λ g x w a h. node_fits h
