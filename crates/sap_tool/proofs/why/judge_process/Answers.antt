use Rattle.std.proofs.Common.{refl}
use Rattle.sap_tool.proofs.WhyMeant.{accepted_is, on_ok}
use Rattle.sap_tool.proofs.why.judge_process.Goals as goal

pub returns-in-Ok : goal.returns-in-Ok
returns-in-Ok c =
    let file = c.in-Ok.ensures.accepted c.args.bytes.now c.requires.written in
    on_ok _ _ _ (λ text is. accepted_is c.args.bytes.now text file.0 c.requires.short file.1 is) c.accepted.ensures

pub refused-requires-clause-refused : goal.refused-requires-clause-refused
refused-requires-clause-refused c = c.in-Err.ensures.refused c.args.bytes.now c.in-Err.fault c.requires.written refl

pub refused-requires-clause-reached : goal.refused-requires-clause-reached
refused-requires-clause-reached c = λ n. (c.requires.tokens, c.requires.written, c.requires.process, c.in-Err.ensures.judged c.in-Err.fault refl n)
