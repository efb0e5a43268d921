use Rattle.std.proofs.Common.{◌≡◌, ◌<◌, ◌++◌, length, map, ap, ◌∙◌, arith}
use Rattle.std.specs.Prelude.{codes}
use Rattle.sap_terms.specs.View.{tree}
use Rattle.sap_called.specs.NamedTerms.{named}
use Rattle.sap_grammar.specs.Pieces.{joined, separator_before}
use Rattle.sap_grammar.specs.TermText.{tree_text}
use Rattle.sap_grammar.proofs.ReadingLaws.Pushed.{joined_texts-next}
use Rattle.sap_called.proofs.Lists.{applied-behind}
use Rattle.sap_called.proofs.terms.+push.Goals as goal

pub push_applied-returns : goal.push_applied-returns
push_applied-returns t c =
    let some : 0 < length c.args.args.now = omega arith in
    let text : c.push_byte-2.new.self ≡ (((c.args.text.now ++ c.args.f.now) ++ codes "(") ++ joined (codes ",") (map (λ t. tree_text (named c.args.names.now t)) c.args.args.now)) ++ codes ")" =
    cc (c.in_ok-push_byte-2.ensures.ok, c.in_ok-push_terms.ensures, c.in_ok-push_byte.ensures.ok, c.in_ok-push_bytes.ensures.ok, c.as_bytes.ensures) in
    text ∙ applied-behind c.args.names.now c.args.text.now c.args.f.now c.args.args.now some

pub push_terms-loop-k-preserved : goal.push_terms-loop-k-preserved
push_terms-loop-k-preserved t c =
    let text = tree_text (named c.args.names.now (tree c.at.result.now)) in
    let step : c.push.new.text ≡ (c.loop-k.text ++ separator_before c.loop-k.k (codes ",")) ++ text =
    cc (c.in_ok-push.ensures, c.in_ok-push_separator.ensures) in
    step ∙ (ap (λ z. (z ++ separator_before c.loop-k.k (codes ",")) ++ text) c.loop-k.invariant
    ∙ joined_texts-next (λ t. tree_text (named c.args.names.now t)) (codes ",") c.args.text.now c.args.terms.now c.loop-k.k (tree c.at.result.now) c.at.ensures.got)
