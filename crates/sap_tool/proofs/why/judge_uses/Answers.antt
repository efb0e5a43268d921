use Rattle.std.proofs.Common.{refl}
use Rattle.sap_tool.proofs.why.judge_uses.Goals as goal

pub judge_process-requires-clause-written : goal.judge_process-requires-clause-written
judge_process-requires-clause-written c = c.in_ok-written.ensures c.args.bytes.now c.requires.said

pub refused-requires-clause-refused : goal.refused-requires-clause-refused
refused-requires-clause-refused c = c.in-Err.ensures.refused c.args.bytes.now c.in-Err.fault (c.in_ok-written.ensures c.args.bytes.now c.requires.said) refl

pub refused-requires-clause-reached : goal.refused-requires-clause-reached
refused-requires-clause-reached c = λ n. (c.requires.tokens, c.in_ok-written.ensures c.args.bytes.now c.requires.said, c.in-Err.ensures.uses c.in-Err.fault refl n)

pub file_process-requires : goal.file_process-requires
file_process-requires c = (c.in_ok-written.ensures c.args.bytes.now c.requires.said).order
