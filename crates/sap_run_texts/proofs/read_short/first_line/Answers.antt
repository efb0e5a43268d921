use Rattle.std.proofs.Common.{◌+◌, ℕ, ◌∷◌, ◌++◌, take, sym, ap, subst, ◌∙◌, arith}
use Rattle.std.proofs.lemmas.List.{take_rest}
use Rattle.sap_text.specs.Tokens.{is_not_feed}
use Rattle.sap_run_lines.specs.StepLines.{IsOpenLine}
use Rattle.sap_run_texts.proofs.Fronts.{front_passes}
use Rattle.sap_run_texts.proofs.ShortRuns.{feed_at, no_feed}
use Rattle.sap_run_texts.proofs.read_short.first_line.Goals as goal

pub returns-then-count-bytes-clause-line : goal.returns-then-count-bytes-clause-line
returns-then-count-bytes-clause-line c =
    let n = c.open_len-count.result in
    let z = c.args.bytes.now in
    feed_at z n c.open_len-count.ensures.is (omega (arith, c.if-count-bytes.true)) ∙ ap (λ y. take n z ++ (10 ∷ y)) (sym (take_rest z (n + 1)))

pub returns-then-count-bytes-clause-opened : goal.returns-then-count-bytes-clause-opened
returns-then-count-bytes-clause-opened c =
    subst (λ (n : ℕ). IsOpenLine (take n c.args.bytes.now)) (sym c.open_len-count.ensures.is) (front_passes is_not_feed c.args.bytes.now)

pub returns-else-count-bytes-clause-none : goal.returns-else-count-bytes-clause-none
returns-else-count-bytes-clause-none c = no_feed c.args.bytes.now (omega (arith, c.if-count-bytes.false, c.open_len-count.ensures.is))
