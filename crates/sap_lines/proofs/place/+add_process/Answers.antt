use Rattle.sap_process.specs.Proc.{proc}
use Rattle.sap_lines.proofs.Kids.{no_child, one_child, two_children}
use Rattle.sap_lines.proofs.Placed.{if_ok, adds_leaf, adds_one, adds_two}
use Rattle.sap_lines.proofs.Leaf.{leaf}
use Rattle.sap_lines.proofs.place.+add_process.Goals as goal

pub returns-in-Nothing : goal.returns-in-Nothing
returns-in-Nothing t c =
    if_ok _ _ c.add_form.result (λ k h. adds_leaf _ _ _ k c.requires (no_child _ c.in-Nothing.ensures.first) leaf h)
    c.add_form.ensures

pub returns-in_ok-first-in-One : goal.returns-in_ok-first-in-One
returns-in_ok-first-in-One t c =
    let kids = one_child (proc c.args.p.now) (proc c.in-One.q.now) c.in-One.ensures.first c.in-One.ensures.second in
    if_ok _ _ c.add_form-in-One.result (λ k h. adds_one _ _ _ _ _ k _ kids c.in_ok-first-in-One.ensures h)
    c.add_form-in-One.ensures

pub returns-in_ok-second-in-Two : goal.returns-in_ok-second-in-Two
returns-in_ok-second-in-Two t c =
    let kids = two_children (proc c.args.p.now) (proc c.in-Two.q.now) (proc c.in-Two.r.now)
    c.in-Two.ensures.first c.in-Two.ensures.second in
    if_ok _ _ c.add_form-in-Two.result
    (λ k h. adds_two _ _ _ _ _ _ _ k _ _ kids c.in_ok-first-in-Two.ensures c.in_ok-second-in-Two.ensures h)
    c.add_form-in-Two.ensures
