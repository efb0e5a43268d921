use Rattle.sap_text.proofs.Ordered.{answer_in_order, answer_within}
use Rattle.sap_text.proofs.lexer.tokens.Goals as goal

pub returns-clause-in_order : goal.returns-clause-in_order
returns-clause-in_order c = answer_in_order c.args.longest c.args.bytes.now c.read_tokens.result c.read_tokens.ensures

pub returns-clause-within : goal.returns-clause-within
returns-clause-within c = answer_within c.args.longest c.args.bytes.now c.read_tokens.result c.read_tokens.ensures
