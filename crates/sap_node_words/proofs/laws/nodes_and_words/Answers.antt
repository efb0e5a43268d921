use Rattle.sap_node_words.proofs.Counts.{term_counts, term_within}
use Rattle.sap_node_words.proofs.Stands.{stands}
use Rattle.sap_node_words.proofs.Walks.{same_term, one_numbers}
use Rattle.sap_node_words.proofs.laws.nodes_and_words.Goals as goal

pub returns-clause-nodes : goal.returns-clause-nodes
returns-clause-nodes c = λ g t a b r. term_counts r

pub returns-clause-within : goal.returns-clause-within
returns-clause-within c = λ g t a b r. term_within r

pub returns-clause-words : goal.returns-clause-words
returns-clause-words c = λ g t a b r. stands r

pub returns-clause-same : goal.returns-clause-same
returns-clause-same c = λ g h t a b d r s. same_term r s

pub returns-clause-one : goal.returns-clause-one
returns-clause-one c = λ g t u a b d r s e f. let is = c.one_term.ensures.words g t u a b d r s e f in one_numbers r s is.0
