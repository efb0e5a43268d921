use Rattle.sap_statements.proofs.Printable.{iff_tidy, iff_names, iff_free}
use Rattle.sap_statements.proofs.laws.formulas_are_printable.Goals as goal

pub returns-clause-tidy : goal.returns-clause-tidy
returns-clause-tidy c = λ g e f n a b r o. iff_tidy c.printed_words.ensures r o

pub returns-clause-names : goal.returns-clause-names
returns-clause-names c = λ most g e f n a b r h. iff_names c.printed_words.ensures most r h

pub returns-clause-free : goal.returns-clause-free
returns-clause-free c = λ g e f n a b r h. iff_free c.printed_words.ensures r h
