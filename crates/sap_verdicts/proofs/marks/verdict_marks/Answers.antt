use Rattle.std.proofs.Common.{◌≡◌, ◌<◌, ◌++◌, length, refl, sym, ◌∙◌, arith}
use Rattle.std.proofs.lemmas.Option.{slice_get_read}
use Rattle.sap_verdicts.specs.VerdictText.{found_marks}
use Rattle.sap_verdicts.specs.View.{found}
use Rattle.sap_verdicts.proofs.Pushed.{one_put, all_put, of_mapped}
use Rattle.sap_verdicts.proofs.marks.verdict_marks.Goals as goal

pub loop-k-preserved : goal.loop-k-preserved
loop-k-preserved c =
    let ys = c.args.findings.now in
    let y = c.index-findings-k.result in
    let inside : c.loop-k.k < length ys = omega arith in
    one_put (λ z. found_marks c.args.lines.now (found z)) ys c.loop-k.k y c.loop-k.out c.push_found.new.out
    (slice_get_read ys (length ys) c.loop-k.k y refl inside c.index-findings-k.is) c.in_ok-push_found.ensures ∙ c.loop-k.invariant

pub returns : goal.returns
returns c =
    let ys = c.args.findings.now in
    sym (all_put (λ z. found_marks c.args.lines.now (found z)) ys c.loop-k.k c.loop-k.out (omega arith)) ∙ c.loop-k.invariant
    ∙ sym (of_mapped (found_marks c.args.lines.now) found ys)
