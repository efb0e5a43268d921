use Rattle.std.proofs.Common.{ap, Err}
use Rattle.sap_replay.proofs.sample.rules_opposite.Goals as goal

pub unreachable-requires : goal.unreachable-requires
unreachable-requires c =
    let file = c.requires.runnable in
    c.process_runs_have_one_answer.ensures.apart _ file.process _ file.builtins file.ready file.annotation _ c.requires.shown.0 _ _ c.requires.shown.1
    (c.in-Err-Step.ensures.refused _ _ (ap Err c.in-Err-Step.field-0-is))
