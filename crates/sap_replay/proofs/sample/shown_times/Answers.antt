use Rattle.std.proofs.Common.{ap, Err}
use Rattle.sap_replay.proofs.SampleLegal.{shown_of_file}
use Rattle.sap_replay.proofs.sample.shown_times.Goals as goal

pub unreachable-requires : goal.unreachable-requires
unreachable-requires c =
    let file = c.requires.runnable in
    let legal = c.sample_is_legal.ensures c.requires.lines.0 in
    let shown = shown_of_file _ _ c.requires.lines.0 legal.0 c.requires.tells c.requires.lines.1 legal.1 in
    c.process_runs_have_one_answer.ensures.apart _ file.process _ file.builtins file.ready file.annotation _ legal.0 _ _ shown
    (c.in-Err-Step.ensures.refused _ _ (ap Err c.in-Err-Step.field-0-is))
