use Rattle.std.proofs.Common.{[], refl}
use Rattle.sap_draft.specs.ProcessGrammar.{EndsProcess}
use Rattle.sap_draft.proofs.Processes.{one_process}
use Rattle.sap_draft.proofs.laws.one_process.Goals as goal

pub returns-clause-place : goal.returns-clause-place
returns-clause-place c = one_process c.term_laws.ensures.read

pub returns-clause-whole : goal.returns-clause-whole
returns-clause-whole c = λ g m n k p q a r s.
    let ends : EndsProcess [] = record { no_parenthesis = refl; no_semicolon = refl; no_else = refl; no_bar = refl; no_bars = refl } in
    let same = one_process c.term_laws.ensures.read g m n k p q a [] [] r s ends ends in
    (same.0, same.1)
