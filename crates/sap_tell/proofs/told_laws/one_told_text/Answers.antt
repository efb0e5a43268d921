use Rattle.sap_tell.proofs.OneText.{one_text, one_thing}
use Rattle.sap_tell.proofs.told_laws.one_told_text.Goals as goal

pub returns-clause-runs : goal.returns-clause-runs
returns-clause-runs c = one_text (record {
  outcome = c.lines_have_one_answer.ensures.outcome;
  exactly = c.runs_match_exactly.ensures;
  small_lines = c.limit_excludes.ensures.lines;
  small_runs = c.limit_excludes.ensures.runs;
  one_form = c.normal_forms_are_unique.ensures;
  kept = c.equality_is_kept.ensures;
})

pub returns-clause-lines : goal.returns-clause-lines
returns-clause-lines c = one_thing (record {
  outcome = c.lines_have_one_answer.ensures.outcome;
  exactly = c.runs_match_exactly.ensures;
  small_lines = c.limit_excludes.ensures.lines;
  small_runs = c.limit_excludes.ensures.runs;
  one_form = c.normal_forms_are_unique.ensures;
  kept = c.equality_is_kept.ensures;
})
