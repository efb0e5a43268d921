use Rattle.std.proofs.Common.{◌≡◌, Some, None, sym, ap, subst, ◌∙◌}
use Rattle.std.specs.Prelude.{option_map}
use Rattle.std.proofs.lemmas.Result.{IfOk-weaker}
use Rattle.sap_process.specs.Proc.{proc}
use Rattle.sap_other_nodes.specs.OtherBinders.{IsBinderOf, IsBinderTold}
use Rattle.sap_other_nodes.specs.code.Binders.{name_at, process_down}
use Rattle.sap_other_nodes.proofs.BinderTold.{exact_node, told_at, told_nameless, told_nowhere}
use Rattle.sap_other_nodes.proofs.other_binder.binder_of_node.Goals as goal

pub returns-in_default : goal.returns-in_default
returns-in_default c = λ k j s there is at b h.
    let down : process_down (Some (proc c.args.whole.now)) c.args.path.now ≡ None =
    rw c.as_slice.ensures.is at (sym c.process_down.ensures ∙ ap (option_map (λ q. proc q.now)) c.in_default.is) in
    told_nowhere c.places_are_by_path.ensures.at_path c.args.outer.now (proc c.args.whole.now) c.args.path.now down k s there is

pub returns-in-None : goal.returns-in-None
returns-in-None c = λ k j s there is at b h.
    let down : process_down (Some (proc c.args.whole.now)) c.args.path.now ≡ Some (proc c.in-Some.p.now) =
    rw c.as_slice.ensures.is at (sym c.process_down.ensures ∙ ap (option_map (λ q. proc q.now)) c.in-Some.is) in
    let name : name_at (proc c.in-Some.p.now) c.args.node ≡ None = sym c.in_ok-name_at.ensures ∙ c.in-None.is in
    let same : j ≡ c.args.node = exact_node c.args.node j c.if-node-eq18446744073709551615.false at in
    told_nameless c.places_are_by_path.ensures.at_path c.args.outer.now (proc c.args.whole.now) (proc c.in-Some.p.now) c.args.path.now c.args.node down name k s there is b
    (subst (λ m. IsBinderOf c.args.outer.now (proc c.args.whole.now) s m b) same h)

pub returns-in-Some-2 : goal.returns-in-Some-2
returns-in-Some-2 c =
    let down : process_down (Some (proc c.args.whole.now)) c.args.path.now ≡ Some (proc c.in-Some.p.now) =
    rw c.as_slice.ensures.is at (sym c.process_down.ensures ∙ ap (option_map (λ q. proc q.now)) c.in-Some.is) in
    let name : name_at (proc c.in-Some.p.now) c.args.node ≡ Some c.in-Some-2.name = sym c.in_ok-name_at.ensures ∙ c.in-Some-2.is in
    IfOk-weaker c.binder_of.result _ _ (λ o h k j s there is at.
    subst (λ m. IsBinderTold c.args.outer.now (proc c.args.whole.now) s m o) (sym (exact_node c.args.node j c.if-node-eq18446744073709551615.false at))
    (told_at c.places_are_by_path.ensures.at_path c.args.outer.now (proc c.args.whole.now) (proc c.in-Some.p.now) c.args.path.now c.args.node c.in-Some-2.name down name o h k s there is))
    c.binder_of.ensures
