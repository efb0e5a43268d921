use Rattle.std.proofs.Common.{ap, Err, arith}
use Rattle.sap_replay.proofs.sample.lines_opposite.Goals as goal

pub unreachable-requires : goal.unreachable-requires
unreachable-requires c =
    let file = c.requires.runnable in
    let few = file.small in
    let opposite = c.requires.opposite.opposite in
    let one = c.rule_runs_have_one_answer.ensures _ file.process _ c.args.rules.now file.pairs file.builtins file.ready (omega (arith, few)) file.annotation in
    one.counted_or_refused opposite.state opposite.full _ _ (record { legal = opposite.legal; admitted = opposite.admitted })
    (c.in-Err-Step.ensures.refused _ _ (ap Err c.in-Err-Step.field-0-is))

pub unreachable-requires-in-Err-Broken : goal.unreachable-requires-in-Err-Broken
unreachable-requires-in-Err-Broken c =
    let file = c.requires.runnable in
    let few = file.small in
    let opposite = c.requires.opposite.opposite in
    let one = c.rule_runs_have_one_answer.ensures _ file.process _ c.args.rules.now file.pairs file.builtins file.ready (omega (arith, few)) file.annotation in
    one.counted_or_broken opposite.state opposite.full _ _ (record { legal = opposite.legal; admitted = opposite.admitted })
    (c.in-Err-Broken.ensures.broken _ _ (ap Err c.in-Err-Broken.field-0-is))
