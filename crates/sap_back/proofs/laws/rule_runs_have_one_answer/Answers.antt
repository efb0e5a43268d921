use Rattle.sap_back.proofs.OneReserved.{show_one}
use Rattle.sap_back.proofs.OneRun.{one_answer}
use Rattle.sap_back.proofs.SomeRun.{some_answer}
use Rattle.sap_back.proofs.laws.rule_runs_have_one_answer.Goals as goal

pub returns : goal.returns
returns c g p q lines pairs hold ready small annotated =
    let well = c.rules_are_well_made.ensures.made g p q pairs ready small annotated in
    let shown = show_one g q (c.rules_are_found_by_name.ensures.origin q) (c.rules_show_the_process.ensures.sound g p q ready small annotated) in
    one_answer c.restrictions_say_sentences.ensures.prefix c.lines_are_steps.ensures.small_runs c.runs_reach_messages.ensures c.lines_have_one_answer.ensures.reached c.lines_have_one_outcome.ensures.small_reached c.lines_have_one_answer.ensures.causes g q hold well lines
    (some_answer c.restrictions_say_sentences.ensures.quiet c.one_restriction_breaks.ensures c.lines_are_steps.ensures.small_runs c.runs_reach_messages.ensures c.lines_have_some_answer.ensures.reached g q hold well shown lines)
