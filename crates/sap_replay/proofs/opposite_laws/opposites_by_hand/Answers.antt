use Rattle.sap_replay.proofs.HandOpposites as hand
use Rattle.sap_replay.proofs.HandOpposites.{line_is_read, rule_is_read}
use Rattle.sap_replay.proofs.opposite_laws.opposites_by_hand.Goals as goal

pub returns-clause-rules_of_none : goal.returns-clause-rules_of_none
returns-clause-rules_of_none c = λ f runnable. hand.rules_of_none c.restrictions_say_sentences.ensures.quiet f c.verdicts_are_kept.ensures runnable

pub returns-clause-process_of_none : goal.returns-clause-process_of_none
returns-clause-process_of_none c = λ f runnable. hand.process_of_none c.restrictions_say_sentences.ensures.quiet f c.verdicts_are_kept.ensures runnable

pub returns-clause-rules : goal.returns-clause-rules
returns-clause-rules c = λ f runnable.
    hand.rules_of_one c.restrictions_say_sentences.ensures.quiet f c.verdicts_are_kept.ensures runnable
    (rule_is_read c.named_steps_can_be_written.ensures.rule c.printed_runs_are_read.ensures.rule)

pub returns-clause-process : goal.returns-clause-process
returns-clause-process c = λ f runnable.
    hand.process_of_one c.restrictions_say_sentences.ensures.quiet f c.verdicts_are_kept.ensures runnable
    (line_is_read c.named_steps_can_be_written.ensures.process c.printed_runs_are_read.ensures.process)

pub returns-clause-other_rules : goal.returns-clause-other_rules
returns-clause-other_rules c = λ f. hand.other_rules f c.one_run.ensures.rule (rule_is_read c.named_steps_can_be_written.ensures.rule c.printed_runs_are_read.ensures.rule)

pub returns-clause-other_process : goal.returns-clause-other_process
returns-clause-other_process c = λ f. hand.other_process f c.one_run.ensures.process (line_is_read c.named_steps_can_be_written.ensures.process c.printed_runs_are_read.ensures.process)

pub returns-clause-rules_of_another_name : goal.returns-clause-rules_of_another_name
returns-clause-rules_of_another_name c = λ f. hand.rules_of_another_name f c.one_run.ensures.rule (rule_is_read c.named_steps_can_be_written.ensures.rule c.printed_runs_are_read.ensures.rule)

pub returns-clause-process_of_another_name : goal.returns-clause-process_of_another_name
returns-clause-process_of_another_name c = λ f. hand.process_of_another_name f c.one_run.ensures.process (line_is_read c.named_steps_can_be_written.ensures.process c.printed_runs_are_read.ensures.process)

pub returns-clause-process_of_more : goal.returns-clause-process_of_more
returns-clause-process_of_more c = λ f. hand.process_of_more f c.one_run.ensures.process

pub returns-clause-own_text : goal.returns-clause-own_text
returns-clause-own_text c = hand.own_text

pub returns-clause-own_text_of_rules : goal.returns-clause-own_text_of_rules
returns-clause-own_text_of_rules c = hand.own_text_of_rules
