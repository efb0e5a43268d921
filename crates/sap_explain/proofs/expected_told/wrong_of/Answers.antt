use Rattle.std.proofs.Common.{◌≡◌, true, sym, ◌∙◌}
use Rattle.sap_terms.specs.declared.limits.TheConstants.{MOST_FILE_NAME_BYTES}
use Rattle.sap_explain.specs.ExpectedTold.{is_of_words}
use Rattle.sap_explain.proofs.ExpectedOnce.{found_is, not_of_words}
use Rattle.sap_explain.proofs.expected_told.wrong_of.Goals as goal

pub wrong_word-requires : goal.wrong_word-requires
wrong_word-requires c =
    let h = c.requires (sym c.is_of_words.ensures ∙ c.if-is_of_words.true) in
    (MOST_FILE_NAME_BYTES, h.are)

pub returns-then-is_of_words : goal.returns-then-is_of_words
returns-then-is_of_words c = found_is (is_of_words c.args.fault.now ≡ true) _ c.wrong_word.result c.wrong_word.ensures

pub returns-else-is_of_words : goal.returns-else-is_of_words
returns-else-is_of_words c = λ is. not_of_words (sym is ∙ sym c.is_of_words.ensures ∙ c.if-is_of_words.false)
