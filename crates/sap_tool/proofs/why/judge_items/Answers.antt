use Rattle.std.proofs.Common.{refl}
use Rattle.sap_tool.proofs.why.judge_items.Goals as goal

pub refused-requires-clause-refused : goal.refused-requires-clause-refused
refused-requires-clause-refused c = c.in-Err.ensures.refused c.args.bytes.now c.in-Err.fault c.requires.said refl

pub refused-requires-clause-reached : goal.refused-requires-clause-reached
refused-requires-clause-reached c = λ n. (c.requires.tokens, c.requires.said, c.in-Err.ensures.items c.in-Err.fault refl n)
