use Rattle.std.proofs.Common.{sym, ◌∙◌}
use Rattle.sap_explain.specs.ExpectedTold.{no_such}
use Rattle.sap_explain.proofs.ExpectedOnce.{nothing_is, of_words}
use Rattle.sap_explain.proofs.expected_told.push_expected_told.Goals as goal

pub push_in_tokens-requires-clause-tokens : goal.push_in_tokens-requires-clause-tokens
push_in_tokens-requires-clause-tokens c = c.requires.tokens (sym c.is_of_words.ensures ∙ c.if-is_of_words.true)

pub push_in_tokens-requires-clause-wrong : goal.push_in_tokens-requires-clause-wrong
push_in_tokens-requires-clause-wrong c = c.requires.wrong (sym c.is_of_words.ensures ∙ c.if-is_of_words.true)

pub returns-then-is_of_words : goal.returns-then-is_of_words
returns-then-is_of_words c = of_words c.args.bytes.now _ _ c.args.fault.now _ (sym c.is_of_words.ensures ∙ c.if-is_of_words.true) c.push_in_tokens.ensures

pub returns-else-is_of_words : goal.returns-else-is_of_words
returns-else-is_of_words c = nothing_is _ (no_such (sym c.is_of_words.ensures ∙ c.if-is_of_words.false))
