use Rattle.sap_formula_words.proofs.StatementWords.{statement_counts, statement_within, same_statement, claimed_has, restricted_has, other}
use Rattle.sap_formula_words.proofs.statement_laws.statements_and_words.Goals as goal

pub returns-clause-parts : goal.returns-clause-parts
returns-clause-parts c = λ g m s a r scope. statement_counts (record { counts = c.nodes_and_words.ensures.nodes; within = c.nodes_and_words.ensures.within; words = c.nodes_and_words.ensures.words; same = c.nodes_and_words.ensures.same }) r scope

pub returns-clause-within : goal.returns-clause-within
returns-clause-within c = λ g m s a r. statement_within (record { counts = c.nodes_and_words.ensures.nodes; within = c.nodes_and_words.ensures.within; words = c.nodes_and_words.ensures.words; same = c.nodes_and_words.ensures.same }) r

pub returns-clause-same : goal.returns-clause-same
returns-clause-same c = λ g h m l s a r t. same_statement (record { counts = c.nodes_and_words.ensures.nodes; within = c.nodes_and_words.ensures.within; words = c.nodes_and_words.ensures.words; same = c.nodes_and_words.ensures.same }) r t

pub returns-clause-claimed : goal.returns-clause-claimed
returns-clause-claimed c = claimed_has

pub returns-clause-not_claimed : goal.returns-clause-not_claimed
returns-clause-not_claimed c = λ g isnt r. other (record { counts = c.nodes_and_words.ensures.nodes; within = c.nodes_and_words.ensures.within; words = c.nodes_and_words.ensures.words; same = c.nodes_and_words.ensures.same }) (claimed_has g isnt) (λ e. absurd (cc (e))) r

pub returns-clause-restricted : goal.returns-clause-restricted
returns-clause-restricted c = restricted_has

pub returns-clause-not_restricted : goal.returns-clause-not_restricted
returns-clause-not_restricted c = λ g isnt r. other (record { counts = c.nodes_and_words.ensures.nodes; within = c.nodes_and_words.ensures.within; words = c.nodes_and_words.ensures.words; same = c.nodes_and_words.ensures.same }) (restricted_has g isnt) (λ e. absurd (cc (e))) r
