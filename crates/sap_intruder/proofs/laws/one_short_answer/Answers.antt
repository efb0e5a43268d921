use Rattle.sap_intruder.proofs.OneRun.{one_end, legal_is_not_refused, one_first_refusal}
use Rattle.sap_intruder.proofs.laws.one_short_answer.Goals as goal

pub returns-clause-end : goal.returns-clause-end
returns-clause-end c = one_end (record {
  one = c.normal_forms_are_unique.ensures;
  channels = c.channels_are_one.ensures.one;
  outcome = c.lines_have_one_answer.ensures.outcome;
  wide = c.limit_excludes.ensures.lines;
  runs = c.short_runs_are_runs.ensures.small_runs;
  written = c.each_run_can_be_written.ensures.runs;
  exactly = c.runs_match_exactly.ensures;
})

pub returns-clause-apart : goal.returns-clause-apart
returns-clause-apart c = legal_is_not_refused (record {
  one = c.normal_forms_are_unique.ensures;
  channels = c.channels_are_one.ensures.one;
  outcome = c.lines_have_one_answer.ensures.outcome;
  wide = c.limit_excludes.ensures.lines;
  runs = c.short_runs_are_runs.ensures.small_runs;
  written = c.each_run_can_be_written.ensures.runs;
  exactly = c.runs_match_exactly.ensures;
}) c.short_refusals_are_one.ensures.answer c.short_refusals_are_one.ensures.cause

pub returns-clause-first : goal.returns-clause-first
returns-clause-first c = one_first_refusal (record {
  one = c.normal_forms_are_unique.ensures;
  channels = c.channels_are_one.ensures.one;
  outcome = c.lines_have_one_answer.ensures.outcome;
  wide = c.limit_excludes.ensures.lines;
  runs = c.short_runs_are_runs.ensures.small_runs;
  written = c.each_run_can_be_written.ensures.runs;
  exactly = c.runs_match_exactly.ensures;
}) c.short_refusals_are_one.ensures.answer c.short_refusals_are_one.ensures.cause
