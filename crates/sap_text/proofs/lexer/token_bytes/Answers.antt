use Rattle.std.proofs.Common.{◌∙◌}
use Rattle.sap_text.proofs.Ordered.{order_at, inside_at, text_at}
use Rattle.sap_text.proofs.lexer.token_bytes.Goals as goal

pub part-requires-clause-order : goal.part-requires-clause-order
part-requires-clause-order c = order_at c.args.bytes.now c.args.tokens.now c.args.k _ c.requires.tokens c.requires.inside

pub part-requires-clause-inside : goal.part-requires-clause-inside
part-requires-clause-inside c = inside_at c.args.bytes.now c.args.tokens.now c.args.k _ c.requires.tokens c.requires.inside

pub returns : goal.returns
returns c = λ t e. c.part.ensures ∙ text_at c.args.bytes.now c.args.tokens.now c.args.k _ t c.requires.inside e
