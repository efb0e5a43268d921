use Rattle.std.proofs.Common.{◌≡◌, refl, sym, ap, ◌∙◌}
use Rattle.std.proofs.lemmas.Result.{err_from_is_err_and}
use Rattle.sap_read.specs.Causes.{fault_of_uses}
use Rattle.sap_read.proofs.FromParts.{misused}
use Rattle.sap_read.proofs.whole.whole_process.Goals as goal

pub returns-in_err-expand-clause-refused : goal.returns-in_err-expand-clause-refused
returns-in_err-expand-clause-refused c = λ g bs ss clash e parts h n.
    let p = err_from_is_err_and c.from_residual.result c.from_residual.ensures.1 in
    let same : p.0 ≡ e = cc (p.1, h) in
    let told : e ≡ fault_of_uses c.in_err-expand.field-0.0 = sym same ∙ p.2 in
    let refused = c.in_err-expand.ensures.refused g c.in_err-expand.field-0.0 refl (λ m. n (told ∙ ap fault_of_uses m)) in
    misused g clash bs ss c.args.processes.now parts c.in_err-expand.field-0.0 e told (rw c.deref.ensures at refused)
