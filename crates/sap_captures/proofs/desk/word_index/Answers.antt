use Rattle.std.proofs.Common.{◌≡◌, ◌↔◌, ℕ, Option, Some, sym, subst}
use Rattle.sap_captures.specs.code.Marks.{IsStemIndex}
use Rattle.sap_captures.proofs.Words.{some_word, word_there}
use Rattle.sap_captures.proofs.desk.word_index.Goals as goal

pub returns-in-None-clause-is : goal.returns-in-None-clause-is
returns-in-None-clause-is c = λ s n there.
    absurd (some_word c.args.desk.now c.requires.desk c.args.node c.if-node-eq18446744073709551615.false c.number_of.result c.number_of.ensures c.item_tokens-item.result.now c.item_tokens-item.ensures
    c.head_word.result c.head_word.ensures s n there c.in-None.is)

pub returns-in-Some-clause-is : goal.returns-in-Some-clause-is
returns-in-Some-clause-is c = λ s n there.
    subst (λ (j : ℕ). (i : ℕ) → (◌≡◌ {A = Option ℕ} (Some j) (Some i)) ↔ IsStemIndex c.args.desk.now s i) (sym c.number_before.ensures.is)
    (word_there c.args.desk.now c.requires.desk c.args.node c.if-node-eq18446744073709551615.false c.number_of.result c.number_of.ensures c.item_tokens-item.result.now c.item_tokens-item.ensures
    c.head_word.result c.head_word.ensures s n there c.in-Some.left c.in-Some.is)
