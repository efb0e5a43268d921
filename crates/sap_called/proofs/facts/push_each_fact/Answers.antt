use Rattle.std.proofs.Common.{◌≡◌, ◌<◌, ◌++◌, length, refl, ap, ◌∙◌, arith}
use Rattle.std.specs.Prelude.{codes}
use Rattle.std.proofs.lemmas.Option.{slice_get_read}
use Rattle.sap_called.specs.NamedTerms.{named_fact}
use Rattle.sap_grammar.specs.FactText.{fact_text}
use Rattle.sap_grammar.specs.Pieces.{separator_before}
use Rattle.sap_grammar.proofs.ReadingLaws.Pushed.{joined_texts-next}
use Rattle.sap_called.proofs.facts.push_each_fact.Goals as goal

pub loop-k-preserved : goal.loop-k-preserved
loop-k-preserved c =
    let facts = c.as_slice-facts.result.now in
    let fact = c.index-facts-k.result in
    let text = fact_text (named_fact c.args.names.now fact) in
    let inside : c.loop-k.k < length facts = omega arith in
    let step : c.push_fact.new.text ≡ (c.loop-k.text ++ separator_before c.loop-k.k (codes ", ")) ++ text =
    cc (c.in_ok-push_fact.ensures, c.in_ok-push_separator.ensures) in
    step ∙ (ap (λ z. (z ++ separator_before c.loop-k.k (codes ", ")) ++ text) c.loop-k.invariant
    ∙ joined_texts-next (λ f. fact_text (named_fact c.args.names.now f)) (codes ", ") c.args.text.now facts c.loop-k.k fact (slice_get_read facts (length facts) c.loop-k.k fact refl inside c.index-facts-k.is))
