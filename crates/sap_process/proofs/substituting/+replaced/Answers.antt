use Rattle.std.proofs.Common.{◌≡◌, IfOk, subst, sym}
use Rattle.sap_terms.specs.Subst.{bound_to}
use Rattle.sap_process.specs.Instance.{process_instance}
use Rattle.sap_process.specs.Proc.{proc}
use Rattle.sap_process.proofs.Below.{over_next}
use Rattle.sap_process.proofs.substituting.+replaced.Goals as goal

pub replaced_below-returns-then-not-binds : goal.replaced_below-returns-then-not-binds
replaced_below-returns-then-not-binds t c =
    subst (λ σ. IfOk c.replaced.result (λ q. proc q.value ≡ process_instance σ (proc c.args.p.now))) (c.binds.ensures c.if-not-binds.true) c.replaced.ensures

pub replaced_below-returns : goal.replaced_below-returns
replaced_below-returns t c =
    subst (λ σ. IfOk c.replaced-2.result (λ q. proc q.value ≡ process_instance σ (proc c.args.p.now))) c.in_ok-rest.ensures c.replaced-2.ensures

pub replaced-returns-in-One : goal.replaced-returns-in-One
replaced-returns-in-One t c =
    subst (λ z. IfOk c.replaced_over.result (λ q. proc q.value ≡ z))
    (over_next (bound_to c.args.b.now) c.args.p.now (proc c.in-One.q.now) (sym c.in-One.ensures.first) (sym c.in-One.ensures.second) c.in_default.not-New) c.replaced_over.ensures
