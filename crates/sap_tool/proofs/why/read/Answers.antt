use Rattle.std.proofs.Common.{refl}
use Rattle.sap_tool.proofs.why.read.Goals as goal

pub read_items-requires-clause-tokens : goal.read_items-requires-clause-tokens
read_items-requires-clause-tokens c = rw c.as_slice.ensures.value c.in-Ok.ensures.tokens

pub refused-requires-clause-refused : goal.refused-requires-clause-refused
refused-requires-clause-refused c = c.in-Err.ensures.refused c.in-Err.fault refl

pub refused-requires-clause-reached : goal.refused-requires-clause-reached
refused-requires-clause-reached c = c.in-Err.ensures.bytes c.in-Err.fault refl
