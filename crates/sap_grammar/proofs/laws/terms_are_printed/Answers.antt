use Rattle.sap_grammar.proofs.TermBytes.{one_term_spelled, printed_term}
use Rattle.sap_grammar.proofs.laws.terms_are_printed.Goals as goal

pub returns-clause-one : goal.returns-clause-one
returns-clause-one c = one_term_spelled c.words_of_bytes.ensures.one

pub returns-clause-printed : goal.returns-clause-printed
returns-clause-printed c = λ g most. printed_term g most (c.words_are_written.ensures most)
