use Rattle.std.proofs.Common.{◌∷◌, ◌++◌, ◌+◌, [], sym, ap, ◌∙◌}
use Rattle.std.specs.Prelude.{option_map}
use Rattle.std.proofs.lemmas.Result.{IfOk-weaker}
use Rattle.sap_process.specs.Proc.{proc}
use Rattle.sap_other_nodes.specs.code.Binders.{IsAlong}
use Rattle.sap_other_nodes.proofs.BinderWays.{found_below, found_here, no_child}
use Rattle.sap_other_nodes.proofs.other_binder.+way.Goals as goal

pub along_from-returns-in-Some : goal.along_from-returns-in-Some
along_from-returns-in-Some t c =
    found_here (proc c.args.p.now) c.args.digit (c.args.rest.now ++ 1 ∷ []) c.args.name.now c.args.depth c.in-Some.found (rw c.in-Some.is at c.in_ok-found.ensures)

pub along_from-returns-in-None-child : goal.along_from-returns-in-None-child
along_from-returns-in-None-child t c =
    no_child (proc c.args.p.now) c.args.digit (c.args.rest.now ++ 1 ∷ []) c.args.name.now c.args.depth (rw c.in-None.is at c.in_ok-found.ensures)
    (sym c.child.ensures ∙ ap (option_map (λ q. proc q.now)) c.in-None-child.is)

pub along_from-returns-in-Some-child : goal.along_from-returns-in-Some-child
along_from-returns-in-Some-child t c =
    IfOk-weaker c.along.result (λ o. IsAlong (proc c.in-Some-child.q.now) (c.args.rest.now ++ 1 ∷ []) c.args.name.now (c.args.depth + 1) o)
    (λ o. IsAlong (proc c.args.p.now) (c.args.digit ∷ (c.args.rest.now ++ 1 ∷ [])) c.args.name.now c.args.depth o)
    (λ o h. found_below (proc c.args.p.now) (proc c.in-Some-child.q.now) c.args.digit (c.args.rest.now ++ 1 ∷ []) c.args.name.now c.args.depth o (rw c.in-None.is at c.in_ok-found.ensures)
    (sym c.child.ensures ∙ ap (option_map (λ q. proc q.now)) c.in-Some-child.is) h) c.along.ensures
