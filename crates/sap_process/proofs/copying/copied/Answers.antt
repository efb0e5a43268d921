use Rattle.std.proofs.Common.{◌≡◌, ap, ◌∙◌, subst, IfOk}
use Rattle.sap_terms.specs.Subst.{bound_to}
use Rattle.sap_process.specs.Instance.{process_instance}
use Rattle.sap_process.specs.Proc.{proc}
use Rattle.sap_process.proofs.InstanceLemmas.{process_unchanged}
use Rattle.sap_process.proofs.copying.copied.Goals as goal

pub returns : goal.returns
returns c =
    let p = proc c.args.p.now in
    subst (λ r. IfOk c.replaced.result (λ q. proc q.value ≡ r))
    (ap (λ b. process_instance (bound_to b) p) c.new-nothing.ensures ∙ process_unchanged p) c.replaced.ensures
