use Rattle.sap_formula.proofs.Slimmer.{hidden_binder_law}
use Rattle.sap_formula.proofs.Subterms.{subterm_law}
use Rattle.sap_formula.proofs.laws.variables_range_over_subterms.Goals as goal

pub returns-clause-subterms : goal.returns-clause-subterms
returns-clause-subterms c =
    subterm_law (record { decide = c.normal_terms_decide.ensures; leaves = c.leaves_are_normal.ensures; heads = c.destructors_head_left_sides.ensures })

pub returns-clause-binders : goal.returns-clause-binders
returns-clause-binders c =
    hidden_binder_law (record { decide = c.normal_terms_decide.ensures; leaves = c.leaves_are_normal.ensures; heads = c.destructors_head_left_sides.ensures })
