use Rattle.std.proofs.Common.{◌≡◌, ◌<◌, ◌++◌, length, map, ap, ◌∙◌, arith}
use Rattle.std.specs.Prelude.{codes}
use Rattle.sap_terms.specs.View.{tree}
use Rattle.sap_grammar.specs.Pieces.{joined}
use Rattle.sap_grammar.specs.TermText.{tree_text}
use Rattle.sap_grammar.specs.Pieces.{separator_before}
use Rattle.sap_grammar.proofs.ReadingLaws.Pushed.{joined_texts-next}
use Rattle.sap_grammar.proofs.Applied.{applied-behind}
use Rattle.sap_grammar.proofs.term_text.+push_term.Goals as goal

pub push_applied-returns : goal.push_applied-returns
push_applied-returns t c =
    let some : 0 < length c.args.args.now = omega arith in
    let text : c.push_byte-2.new.self ≡ (((c.args.text.now ++ c.args.f.now) ++ codes "(") ++ joined (codes ",") (map tree_text c.args.args.now)) ++ codes ")" =
    cc (c.in_ok-push_byte-2.ensures.ok, c.in_ok-push_terms.ensures, c.in_ok-push_byte.ensures.ok, c.in_ok-push_bytes.ensures.ok, c.as_bytes.ensures) in
    text ∙ applied-behind c.args.text.now c.args.f.now c.args.args.now some

pub push_terms-loop-k-preserved : goal.push_terms-loop-k-preserved
push_terms-loop-k-preserved t c =
    let text = tree_text (tree c.at.result.now) in
    let step : c.push_term.new.text ≡ (c.loop-k.text ++ separator_before c.loop-k.k (codes ",")) ++ text =
    cc (c.in_ok-push_term.ensures, c.in_ok-push_separator.ensures) in
    step ∙ (ap (λ z. (z ++ separator_before c.loop-k.k (codes ",")) ++ text) c.loop-k.invariant
    ∙ joined_texts-next tree_text (codes ",") c.args.text.now c.args.terms.now c.loop-k.k (tree c.at.result.now) c.at.ensures.got)
