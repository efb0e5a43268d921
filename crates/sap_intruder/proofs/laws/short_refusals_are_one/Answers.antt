use Rattle.sap_intruder.proofs.Refused.{short_refusals_are_one, short_lines_are_not_refused}
use Rattle.sap_intruder.proofs.laws.short_refusals_are_one.Goals as goal

pub returns-clause-cause : goal.returns-clause-cause
returns-clause-cause c =
    short_refusals_are_one c.normal_forms_are_unique.ensures c.lines_have_one_answer.ensures.cause c.channels_are_one.ensures.one c.channels_are_one.ensures.answer c.channels_are_one.ensures.cause

pub returns-clause-answer : goal.returns-clause-answer
returns-clause-answer c = short_lines_are_not_refused c.normal_forms_are_unique.ensures c.lines_have_one_answer.ensures.answer c.channels_are_one.ensures.answer c.channels_are_one.ensures.one
