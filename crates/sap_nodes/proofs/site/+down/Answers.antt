use Rattle.std.proofs.Common.{◌≡◌, Some, sym, ap, subst, ◌∙◌}
use Rattle.std.specs.Prelude.{option_map}
use Rattle.std.proofs.lemmas.Result.{IfOk-weaker}
use Rattle.sap_process.specs.Places.{child}
use Rattle.sap_process.specs.Proc.{proc}
use Rattle.sap_nodes.specs.code.Sites.{ComesDown}
use Rattle.sap_nodes.specs.declared.trail.Trail.{Trail}
use Rattle.sap_nodes.proofs.ComingDown.{come_further}
use Rattle.sap_nodes.proofs.site.+down.Goals as goal

pub below-returns-in-Some : goal.below-returns-in-Some
below-returns-in-Some t c =
    let known = c.args.trail.now.known in
    let there : child (proc c.args.p.now) c.args.digit ≡ Some (proc c.in-Some.q.now) = sym c.child.ensures ∙ ap (option_map (λ q. proc q.now)) c.in-Some.is in
    IfOk-weaker c.down.result _ _ (λ o h. come_further known c.down.new.trail.known (proc c.args.p.now) (proc c.in-Some.q.now) c.args.digit c.args.rest.now (option_map (λ q. proc q.now) o) there
    (subst (λ (a : Trail). ComesDown a.known (proc c.in-Some.q.now) c.args.rest.now c.down.new.trail.known (option_map (λ q. proc q.now) o)) c.in_ok-bind.ensures h)) c.down.ensures
