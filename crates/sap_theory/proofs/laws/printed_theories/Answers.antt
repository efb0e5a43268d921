use Rattle.sap_theory.specs.TheoryText.{theory_text}
use Rattle.sap_theory.proofs.PrintableTheories.{text_spells_theory}
use Rattle.sap_theory.proofs.PrintedTheories.{printed_spells}
use Rattle.sap_theory.proofs.laws.printed_theories.Goals as goal

pub returns-clause-printable : goal.returns-clause-printable
returns-clause-printable c =
    text_spells_theory c.printed_words.ensures c.formulas_are_printable.ensures.free c.words_are_written.ensures c.words_of_bytes.ensures.lexed

pub returns-clause-spelled : goal.returns-clause-spelled
returns-clause-spelled c =
    let words = c.words_of_bytes.ensures in
    let forms = c.formulas_are_printable.ensures in
    let sorts = c.sorts_are_kept.ensures in
    printed_spells c.printed_words.ensures
    (record { tidy = forms.tidy; names = forms.names; twice = sorts.twice; tidy_kept = sorts.tidy; over_before = sorts.over; names_kept = sorts.names })
    forms.free c.words_are_written.ensures
    (record { tokens = words.tokens; lexed = words.lexed; room = words.room; held = words.held })

pub returns-clause-no_other : goal.returns-clause-no_other
returns-clause-no_other c = λ most t u p r.
    c.one_theory.ensures (theory_text t) t u
    (text_spells_theory c.printed_words.ensures c.formulas_are_printable.ensures.free c.words_are_written.ensures c.words_of_bytes.ensures.lexed most t p) r
