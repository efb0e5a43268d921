use Rattle.std.proofs.Common.{◌≡◌, ◌<◌, ◌++◌, length, refl, ap, ◌∙◌, arith}
use Rattle.std.specs.Prelude.{codes}
use Rattle.std.proofs.lemmas.Option.{slice_get_read}
use Rattle.sap_grammar.specs.Pieces.{separator_before}
use Rattle.sap_grammar.proofs.ReadingLaws.Pushed.{joined-next}
use Rattle.sap_theory.proofs.statements.push_names.Goals as goal

pub loop-k-preserved : goal.loop-k-preserved
loop-k-preserved c =
    let names = c.as_slice-names.result.now in
    let name = c.index-names-k.result in
    let inside : c.loop-k.k < length names = omega arith in
    let step : c.push_bytes.new.self ≡ (c.loop-k.text ++ separator_before c.loop-k.k (codes ", ")) ++ name =
    cc (c.in_ok-push_bytes.ensures.ok, c.in_ok-push_separator.ensures, c.as_bytes.ensures) in
    step ∙ (ap (λ z. (z ++ separator_before c.loop-k.k (codes ", ")) ++ name) c.loop-k.invariant
    ∙ joined-next (codes ", ") c.args.text.now names c.loop-k.k name (slice_get_read names (length names) c.loop-k.k name refl inside c.index-names-k.is))
