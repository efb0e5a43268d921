use Rattle.sap_lines.proofs.Reached.{runs_match_exactly}
use Rattle.sap_lines.proofs.laws.runs_match_exactly.Goals as goal

pub returns : goal.returns
returns c = runs_match_exactly c.leaves_are_normal.ensures c.destructors_head_left_sides.ensures c.lines_are_steps.ensures.runs c.runs_stay_ground.ensures.runs
