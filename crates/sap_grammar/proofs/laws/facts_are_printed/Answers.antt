use Rattle.sap_grammar.proofs.TermBytes.{one_fact_spelled, printed_fact}
use Rattle.sap_grammar.proofs.laws.facts_are_printed.Goals as goal

pub returns-clause-one : goal.returns-clause-one
returns-clause-one c = one_fact_spelled c.words_of_bytes.ensures.one

pub returns-clause-printed : goal.returns-clause-printed
returns-clause-printed c = λ g most. printed_fact g most (c.words_are_written.ensures most)
