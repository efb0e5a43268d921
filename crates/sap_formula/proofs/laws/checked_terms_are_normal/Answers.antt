use Rattle.sap_formula.proofs.Goods.{goods_at}
use Rattle.sap_formula.proofs.Plain.{args-same, plain-normal}
use Rattle.sap_formula.proofs.laws.checked_terms_are_normal.Goals as goal

pub returns-clause-terms : goal.returns-clause-terms
returns-clause-terms c =
    plain-normal (record { decide = c.normal_terms_decide.ensures; leaves = c.leaves_are_normal.ensures; heads = c.destructors_head_left_sides.ensures })

pub returns-clause-args : goal.returns-clause-args
returns-clause-args c =
    args-same (record { decide = c.normal_terms_decide.ensures; leaves = c.leaves_are_normal.ensures; heads = c.destructors_head_left_sides.ensures })

pub returns-clause-facts : goal.returns-clause-facts
returns-clause-facts c = goods_at
