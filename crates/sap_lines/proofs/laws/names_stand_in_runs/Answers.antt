use Rattle.sap_lines.proofs.Passing.{names_stand}
use Rattle.sap_lines.proofs.laws.names_stand_in_runs.Goals as goal

pub returns : goal.returns
returns c = names_stand (record {
  each = c.each_term_has_a_normal_form.ensures;
  one_form = c.normal_forms_are_unique.ensures;
  decide = c.normal_forms_decide.ensures;
  kept = c.equality_is_kept.ensures;
  leaves = c.leaves_are_normal.ensures;
  heads = c.destructors_head_left_sides.ensures;
  modulo = c.matching_is_modulo.ensures;
}) c.symbols_reduce_once.ensures c.runs_match_exactly.ensures c.limit_excludes.ensures.runs
