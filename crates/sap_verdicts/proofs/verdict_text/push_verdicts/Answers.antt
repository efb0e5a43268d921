use Rattle.std.proofs.Common.{◌≡◌, ◌<◌, ◌++◌, codes, length, map, refl, sym, ap, ◌∙◌, arith}
use Rattle.std.specs.Prelude.{flat_map}
use Rattle.std.proofs.lemmas.Option.{slice_get_read}
use Rattle.sap_verdicts.specs.VerdictText.{verdict_line, verdicts_text}
use Rattle.sap_verdicts.specs.View.{found}
use Rattle.sap_verdicts.proofs.Pushed.{one_put, all_put, verdicts_of}
use Rattle.sap_verdicts.proofs.verdict_text.push_verdicts.Goals as goal

pub loop-k-init : goal.loop-k-init
loop-k-init c = refl

pub loop-k-preserved : goal.loop-k-preserved
loop-k-preserved c =
    let ys = c.args.findings.now in
    let y = c.index-findings-k.result in
    let inside : c.loop-k.k < length ys = omega arith in
    one_put (λ z. verdict_line c.args.names.now c.args.lines.now c.standing_of-standing.result (found z) ++ codes "\n") ys c.loop-k.k y c.loop-k.text c.push_whole.new.text
    (slice_get_read ys (length ys) c.loop-k.k y refl inside c.index-findings-k.is) c.in_ok-push_whole.ensures ∙ c.loop-k.invariant

pub returns : goal.returns
returns c =
    let ys = c.args.findings.now in
    sym (all_put (λ z. verdict_line c.args.names.now c.args.lines.now c.standing_of-standing.result (found z) ++ codes "\n") ys c.loop-k.k c.loop-k.text (omega arith)) ∙ c.loop-k.invariant
    ∙ ap (λ t. c.args.text.now ++ t) (verdicts_of c.args.names.now c.args.lines.now ys c.standing_of-standing.result c.standing_of-standing.ensures)
