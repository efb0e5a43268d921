use Rattle.std.proofs.Common.{◌≡◌, ◌<◌, ◌++◌, length, map, refl, sym, ◌∙◌, arith}
use Rattle.std.proofs.lemmas.Option.{slice_get_read}
use Rattle.sap_verdicts.specs.VerdictText.{verdict_line}
use Rattle.sap_verdicts.specs.View.{found}
use Rattle.sap_verdicts.proofs.Pushed.{one_mapped, all_mapped, lines_of}
use Rattle.sap_verdicts.proofs.verdict_text.verdict_lines.Goals as goal

pub loop-k-preserved : goal.loop-k-preserved
loop-k-preserved c =
    let ys = c.args.findings.now in
    let y = c.index-findings-k.result in
    let inside : c.loop-k.k < length ys = omega arith in
    one_mapped (λ z. verdict_line c.args.names.now c.args.lines.now c.standing_of-standing.result (found z)) ys c.loop-k.k y c.loop-k.out c.push_line_of.new.out
    (slice_get_read ys (length ys) c.loop-k.k y refl inside c.index-findings-k.is) c.in_ok-push_line_of.ensures ∙ c.loop-k.invariant

pub returns : goal.returns
returns c =
    let ys = c.args.findings.now in
    sym (all_mapped (λ z. verdict_line c.args.names.now c.args.lines.now c.standing_of-standing.result (found z)) ys c.loop-k.k c.loop-k.out (omega arith)) ∙ c.loop-k.invariant
    ∙ lines_of c.args.names.now c.args.lines.now ys c.standing_of-standing.result c.standing_of-standing.ensures
