use Rattle.sap_grammar.proofs.Signatures.{any_fact, any_facts, any_short_fact, any_short_term, any_term}
use Rattle.sap_grammar.proofs.laws.same_grammar.Goals as goal

pub returns-clause-terms : goal.returns-clause-terms
returns-clause-terms c = any_term

pub returns-clause-facts : goal.returns-clause-facts
returns-clause-facts c = any_fact

pub returns-clause-short_terms : goal.returns-clause-short_terms
returns-clause-short_terms c = any_short_term

pub returns-clause-short_facts : goal.returns-clause-short_facts
returns-clause-short_facts c = any_short_fact

pub returns-clause-lists : goal.returns-clause-lists
returns-clause-lists c = any_facts
