use Rattle.std.proofs.Common.{arith}
use Rattle.sap_replay.proofs.OneConversion.{one_text, told_lines, drawn_lines}
use Rattle.sap_replay.proofs.laws.one_run_is_written_told_and_drawn.Goals as goal

pub returns-clause-written : goal.returns-clause-written
returns-clause-written c f rule_lines text other runnable =
    let few = runnable.small in
    one_text f rule_lines (λ lines others. c.one_converted_run.ensures.run f.signature runnable.process f.process rule_lines lines others runnable.pairs runnable.builtins runnable.ready (omega (arith, few)) runnable.annotation) text other

pub returns-clause-told : goal.returns-clause-told
returns-clause-told c bytes f rule_lines text other runnable =
    let few = runnable.small in
    told_lines f rule_lines (λ lines others. c.one_converted_run.ensures.run f.signature runnable.process f.process rule_lines lines others runnable.pairs runnable.builtins runnable.ready (omega (arith, few)) runnable.annotation) bytes text other

pub returns-clause-drawn : goal.returns-clause-drawn
returns-clause-drawn c bytes f rule_lines text other runnable =
    let few = runnable.small in
    drawn_lines f rule_lines (λ lines others. c.one_converted_run.ensures.run f.signature runnable.process f.process rule_lines lines others runnable.pairs runnable.builtins runnable.ready (omega (arith, few)) runnable.annotation) bytes text other
