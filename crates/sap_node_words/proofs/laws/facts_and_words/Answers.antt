use Rattle.sap_node_words.proofs.Counts.{args_counts, args_within}
use Rattle.sap_node_words.proofs.FactCounts.{fact_counts, facts_count}
use Rattle.sap_node_words.proofs.FactWalks.{same_args, same_end, same_fact, same_facts}
use Rattle.sap_node_words.proofs.Stands.{arguments_stand}
use Rattle.sap_node_words.proofs.laws.facts_and_words.Goals as goal

pub returns-clause-arguments : goal.returns-clause-arguments
returns-clause-arguments c = λ g ts a b r. args_counts r

pub returns-clause-fact : goal.returns-clause-fact
returns-clause-fact c = λ g f a b r. fact_counts r

pub returns-clause-facts : goal.returns-clause-facts
returns-clause-facts c = λ g m s w fs a b r. facts_count r

pub returns-clause-same_term : goal.returns-clause-same_term
returns-clause-same_term c = λ g h t a b d r s e f. same_end r s e f

pub returns-clause-same_arguments : goal.returns-clause-same_arguments
returns-clause-same_arguments c = λ g h ts a b d r s. same_args r s

pub returns-clause-same_fact : goal.returns-clause-same_fact
returns-clause-same_fact c = λ g h f a b d r s. same_fact r s

pub returns-clause-same_facts : goal.returns-clause-same_facts
returns-clause-same_facts c = λ g h m l s u w v fs a b d r o. same_facts r o

pub returns-clause-within : goal.returns-clause-within
returns-clause-within c = λ g ts a b r. args_within r

pub returns-clause-words : goal.returns-clause-words
returns-clause-words c = λ g ts a b r. arguments_stand r
