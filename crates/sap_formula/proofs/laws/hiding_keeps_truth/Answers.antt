use Rattle.sap_formula.proofs.Hiding.{hide_law}
use Rattle.sap_formula.proofs.laws.hiding_keeps_truth.Goals as goal

pub returns : goal.returns
returns c = hide_law (record { decide = c.normal_terms_decide.ensures; leaves = c.leaves_are_normal.ensures; heads = c.destructors_head_left_sides.ensures })
