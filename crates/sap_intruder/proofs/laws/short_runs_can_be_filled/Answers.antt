use Rattle.sap_intruder.proofs.FilledWithin.{short_runs_can_be_filled, small_runs_can_be_filled}
use Rattle.sap_intruder.proofs.laws.short_runs_can_be_filled.Goals as goal

pub returns-clause-runs : goal.returns-clause-runs
returns-clause-runs c = short_runs_can_be_filled c.normal_forms_are_unique.ensures c.lines_look_at_one_entry.ensures.lines

pub returns-clause-small_runs : goal.returns-clause-small_runs
returns-clause-small_runs c =
    small_runs_can_be_filled c.normal_forms_are_unique.ensures c.equality_is_kept.ensures c.symbols_reduce_once.ensures c.leaves_are_normal.ensures c.derivations_stay_near.ensures
    c.lines_look_at_one_entry.ensures.small_lines
