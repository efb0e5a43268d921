use Rattle.std.proofs.Common.{refl}
use Rattle.sap_tool.proofs.why.read_items.Goals as goal

pub refused-requires-clause-refused : goal.refused-requires-clause-refused
refused-requires-clause-refused c = c.in-Err.ensures.refused c.in-Err.fault refl

pub refused-requires-clause-reached : goal.refused-requires-clause-reached
refused-requires-clause-reached c = λ n. (c.requires.tokens, c.in-Err.ensures.words c.in-Err.fault refl n)
