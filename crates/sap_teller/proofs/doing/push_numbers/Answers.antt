use Rattle.std.proofs.Common.{◌++◌, decimal, codes, ap, ◌∙◌}
use Rattle.sap_grammar.specs.Pieces.{separator_before}
use Rattle.sap_grammar.proofs.ReadingLaws.Pushed.{joined_texts-next}
use Rattle.sap_teller.proofs.doing.push_numbers.Goals as goal

pub loop-k-preserved : goal.loop-k-preserved
loop-k-preserved c =
    let text = decimal c.at.result.now in
    c.in_ok-push_number.ensures.ok ∙ ap (λ z. z ++ text) c.in_ok-push_separator.ensures ∙ ap (λ z. (z ++ separator_before c.loop-k.k (codes ",")) ++ text) c.loop-k.invariant
    ∙ joined_texts-next decimal (codes ",") c.args.text.now c.args.numbers.now c.loop-k.k c.at.result.now c.at.ensures
