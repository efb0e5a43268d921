use Rattle.std.proofs.Common.{◌≡◌, true, refl, sym, ◌∙◌}
use Rattle.sap_run_texts.specs.ShortTexts.{short_head}
use Rattle.sap_run_texts.proofs.Begun.{other_head}
use Rattle.sap_run_texts.proofs.read_short.behind_head.Goals as goal

pub returns-else-is_short_head-clause-none : goal.returns-else-is_short_head-clause-none
returns-else-is_short_head-clause-none c body e =
    let other : c.in_ok-line.line.now ≡ short_head → ⊥ = λ same. let yes : c.is_short_head.result ≡ true = c.is_short_head.ensures.1 same in absurd (cc (yes, c.if-is_short_head.false)) in
    other_head short_head c.in_ok-line.line.now c.in_ok-line.rest.now refl c.in_ok-line.ensures.opened other body (sym c.in_ok-line.ensures.line ∙ e)
