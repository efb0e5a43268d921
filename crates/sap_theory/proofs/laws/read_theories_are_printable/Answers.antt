use Rattle.sap_theory.proofs.ReadPasses.{read_passes, printable_as_read}
use Rattle.sap_theory.proofs.laws.read_theories_are_printable.Goals as goal

pub returns-clause-printable : goal.returns-clause-printable
returns-clause-printable c = λ z t r.
    let words = c.words_of_bytes.ensures in
    let forms = c.formulas_are_printable.ensures in
    let sorts = c.sorts_are_kept.ensures in
    let was = c.read_theories_are_spelled.ensures z t r in
    printable_as_read c.printed_words.ensures
    (record { tidy = forms.tidy; names = forms.names; twice = sorts.twice; tidy_kept = sorts.tidy; over_before = sorts.over; names_kept = sorts.names })
    (record { tokens = words.tokens; lexed = words.lexed; room = words.room; held = words.held })
    z t was.0 was.1

pub returns-clause-passes : goal.returns-clause-passes
returns-clause-passes c = read_passes c.faultless_formulas_keep_signs.ensures.sorts
