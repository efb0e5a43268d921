use Rattle.sap_formula.proofs.EmptyTimes.{filled_law, hide_filled}
use Rattle.sap_formula.proofs.empty_times.empty_times_are_not_seen.Goals as goal

pub returns-clause-truth : goal.returns-clause-truth
returns-clause-truth c = filled_law (record { decide = c.normal_terms_decide.ensures; leaves = c.leaves_are_normal.ensures; heads = c.destructors_head_left_sides.ensures })

pub returns-clause-hidden : goal.returns-clause-hidden
returns-clause-hidden c = hide_filled
