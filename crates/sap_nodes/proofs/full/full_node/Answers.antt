use Rattle.std.proofs.Common.{◌≡◌, ◌≤◌, subst, sym, ap, ◌∙◌, arith, length}
use Rattle.std.proofs.lemmas.Result.{IfOk-weaker}
use Rattle.sap_terms.specs.declared.limits.TheConstants.{MOST_SCOPE_NAMES}
use Rattle.sap_terms.specs.Path.{AreDigits}
use Rattle.sap_process.specs.Proc.{proc}
use Rattle.sap_process.specs.Sites.{above_of}
use Rattle.sap_nodes.specs.FullScope.{IsFillingTold}
use Rattle.sap_nodes.specs.code.Full.{fill_along}
use Rattle.sap_nodes.specs.declared.trail.Trail.{Trail}
use Rattle.sap_nodes.proofs.FullTold.{filling_told, nothing_told}
use Rattle.sap_nodes.proofs.full.full_node.Goals as goal

pub returns-then-len-gt-MOST_SCOPE_NAMES : goal.returns-then-len-gt-MOST_SCOPE_NAMES
returns-then-len-gt-MOST_SCOPE_NAMES c =
    nothing_told c.args.scope.now (proc c.args.p.now) c.args.path.now
    (let full = c.if-len-gt-MOST_SCOPE_NAMES.true in let n = c.len.ensures in omega (arith, full, n))

pub returns : goal.returns
returns c =
    let fits : length c.args.scope.now ≤ MOST_SCOPE_NAMES = (let few = c.if-len-gt-MOST_SCOPE_NAMES.false in let n = c.len.ensures in omega (arith, few, n)) in
    IfOk-weaker c.along.result (λ o. o ≡ fill_along c.in_ok-trail.trail.known 0 0 c.as_slice.result.now (proc c.args.p.now))
    (IsFillingTold (above_of c.args.scope.now 0) (proc c.args.p.now) c.args.path.now)
    (λ o e.
    subst (IsFillingTold (above_of c.args.scope.now 0) (proc c.args.p.now) c.args.path.now)
    (sym (e
    ∙ ap (λ (a : Trail). fill_along a.known 0 0 c.as_slice.result.now (proc c.args.p.now)) c.in_ok-trail.ensures
    ∙ ap (λ v. fill_along c.args.scope.now 0 0 v (proc c.args.p.now)) c.as_slice.ensures.is))
    (filling_told c.args.scope.now (proc c.args.p.now) c.args.path.now (subst AreDigits c.as_slice.ensures.is c.as_slice.ensures.digits) fits))
    c.along.ensures
