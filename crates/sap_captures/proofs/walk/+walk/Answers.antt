use Rattle.std.proofs.Common.{ℕ, List, [], ◌∷◌, ◌++◌, take, refl, ap, ◌∙◌}
use Rattle.std.proofs.lemmas.Result.{on_ok_weaker}
use Rattle.sap_terms.specs.declared.var.Var.{Var}
use Rattle.sap_process.specs.Proc.{proc}
use Rattle.sap_process.specs.Sites.{message_var, sites_from}
use Rattle.sap_captures.proofs.Walking.{met_and_below, walked_both, with_binder, with_digit}
use Rattle.sap_captures.proofs.walk.+walk.Goals as goal

pub walk_both-returns-clause-walked : goal.walk_both-returns-clause-walked
walk_both-returns-clause-walked t c = λ locks.
    let a = c.args.walk.now in
    on_ok_weaker c.walk_child-2.result
    (walked_both c.args.desk.now c.args.kind (sites_from (a.trail ++ 1 ∷ []) a.binding.scope locks (proc c.args.q.now)) (λ (path : List ℕ) (scope : List Var). sites_from (path ++ 2 ∷ []) scope locks (proc c.args.r.now)) a c.walk_child.new.walk c.walk_child-2.new.walk
    (c.in_ok-walk_child.ensures.walked locks))
    (c.walk_child-2.ensures.walked locks)

pub walk_branches-returns-clause-walked : goal.walk_branches-returns-clause-walked
walk_branches-returns-clause-walked t c = λ locks.
    let a = c.args.walk.now in
    on_ok_weaker c.walk_child.result
    (walked_both c.args.desk.now c.args.kind (sites_from (a.trail ++ 1 ∷ []) (a.binding.scope ++ message_var c.args.x.now ∷ []) locks (proc c.args.q.now)) (λ (path : List ℕ) (scope : List Var). sites_from (path ++ 2 ∷ []) scope locks (proc c.args.r.now)) a c.walk_with.new.walk c.walk_child.new.walk
    (c.in_ok-walk_with.ensures.walked locks))
    (c.walk_child.ensures.walked locks)

pub walk_with-returns-clause-walked : goal.walk_with-returns-clause-walked
walk_with-returns-clause-walked t c = λ locks.
    let a = c.args.walk.now in
    on_ok_weaker c.walk_child-met.result
    (λ w. with_binder c.args.desk.now c.args.kind (message_var c.args.x.now ∷ []) (λ (scope : List Var). sites_from (a.trail ++ 1 ∷ []) scope locks (proc c.args.q.now)) a _ c.walk_child-met.new.walk _ refl refl c.in_ok-bind_message.ensures w refl refl
    (c.cut.ensures ∙ ap (λ (n : ℕ). take n c.walk_child-met.new.walk.binding.scope) c.len-outside.ensures))
    (c.walk_child-met.ensures.walked locks)

pub walk_child-returns-clause-walked : goal.walk_child-returns-clause-walked
walk_child-returns-clause-walked t c = λ locks.
    let a = c.args.walk.now in
    on_ok_weaker c.walk_from-met.result
    (λ w. with_digit c.args.desk.now c.args.kind c.args.digit (λ (path : List ℕ). sites_from path a.binding.scope locks (proc c.args.q.now)) a _ c.walk_from-met.new.walk _ c.in_ok-push.ensures.ok refl refl w c.pop.ensures refl refl)
    (c.walk_from-met.ensures.walked locks)

pub walk_from-returns-clause-walked : goal.walk_from-returns-clause-walked
walk_from-returns-clause-walked t c = λ locks.
    let a = c.args.walk.now in
    on_ok_weaker c.walk_below-met.result
    (λ w. met_and_below c.args.desk.now c.args.kind locks (proc c.args.p.now) a c.meet.new.walk c.walk_below-met.new.walk _ (c.in_ok-meet.ensures.met locks) w refl refl
    (c.cut.ensures ∙ ap (λ (n : ℕ). take n c.walk_below-met.new.walk.binding.scope) c.len-above.ensures))
    (c.walk_below-met.ensures.walked a.binding.scope locks (c.in_ok-meet.ensures.met locks).scope)
