use Rattle.sap_theory.specs.TheoryText.{theory_text}
use Rattle.sap_theory.proofs.PrintedWithin.{printed_within}
use Rattle.sap_theory.proofs.laws.shallow_theories_are_read.Goals as goal

pub returns-clause-within : goal.returns-clause-within
returns-clause-within c = printed_within c.printed_words.ensures c.formulas_are_printable.ensures.free c.words_are_written.ensures c.words_of_bytes.ensures.lexed

pub returns-clause-read : goal.returns-clause-read
returns-clause-read c = λ t p s checks.
    c.spelled_theories_are_read.ensures (theory_text t) t
    (printed_within c.printed_words.ensures c.formulas_are_printable.ensures.free c.words_are_written.ensures c.words_of_bytes.ensures.lexed t p s) checks

pub returns-clause-again : goal.returns-clause-again
returns-clause-again c = λ z t r s.
    let can = c.read_theories_are_printable.ensures.printable z t r in
    c.spelled_theories_are_read.ensures (theory_text t) t
    (printed_within c.printed_words.ensures c.formulas_are_printable.ensures.free c.words_are_written.ensures c.words_of_bytes.ensures.lexed t can s)
    (c.read_theories_are_printable.ensures.passes z t r)
