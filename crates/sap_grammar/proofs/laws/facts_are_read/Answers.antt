use Rattle.sap_grammar.proofs.Short.{facts_are, facts_read, short_fact_is, short_fact_read}
use Rattle.sap_grammar.proofs.laws.facts_are_read.Goals as goal

pub returns-clause-sound : goal.returns-clause-sound
returns-clause-sound c = short_fact_is

pub returns-clause-complete : goal.returns-clause-complete
returns-clause-complete c = short_fact_read

pub returns-clause-lists_sound : goal.returns-clause-lists_sound
returns-clause-lists_sound c = facts_are

pub returns-clause-lists_complete : goal.returns-clause-lists_complete
returns-clause-lists_complete c = λ g m allowed closing fs a b no_comma no_sign. facts_read g m allowed closing no_comma no_sign fs a b
