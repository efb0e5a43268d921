use Rattle.std.proofs.Common.{sym, ◌∙◌}
use Rattle.sap_explain.proofs.Cures.{byte_says}
use Rattle.sap_explain.proofs.cure.cure_of.Goals as goal

pub piece_cure-requires-clause-tokens : goal.piece_cure-requires-clause-tokens
piece_cure-requires-clause-tokens c = c.requires.tokens (sym c.is_syntax.ensures ∙ c.if-is_syntax.true)

pub piece_cure-requires-clause-wrong : goal.piece_cure-requires-clause-wrong
piece_cure-requires-clause-wrong c = c.requires.wrong (sym c.is_syntax.ensures ∙ c.if-is_syntax.true)

pub returns-in-Some : goal.returns-in-Some
returns-in-Some c = byte_says c.args.bytes.now c.args.fault.now c.in-Some.at c.byte_cure.result (sym c.bad_byte.ensures ∙ c.in-Some.is) c.byte_cure.ensures
