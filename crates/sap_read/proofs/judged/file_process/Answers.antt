use Rattle.std.proofs.Common.{◌≡◌, inl, refl, sym, ap, ◌∙◌, subst}
use Rattle.std.proofs.lemmas.Result.{err_from_is_err_and}
use Rattle.sap_terms.specs.Signature.{pairs_alone}
use Rattle.sap_grammar.specs.Signatures.{clash_from}
use Rattle.sap_read.specs.Causes.{fault_of_uses}
use Rattle.sap_read.specs.Item.{bodies, declarations}
use Rattle.sap_read.specs.SaidFiles.{IsOfUses}
use Rattle.sap_read.proofs.FromParts.{misused}
use Rattle.sap_read.proofs.WrittenFiles.{uses_of, written_parts, written_refused}
use Rattle.sap_read.proofs.judged.file_process.Goals as goal

pub returns-in_err-expand-clause-refused : goal.returns-in_err-expand-clause-refused
returns-in_err-expand-clause-refused c = λ z e is h n.
    let w = c.args.file.now in
    let g = w.declared.signature in
    let clash = clash_from pairs_alone (declarations is.standing) in
    let p = err_from_is_err_and c.from_residual.result c.from_residual.ensures.1 in
    let same : p.0 ≡ e = cc (p.1, h) in
    let told : e ≡ fault_of_uses c.in_err-expand.field-0.0 = sym same ∙ p.2 in
    let refused = c.in_err-expand.ensures.refused g c.in_err-expand.field-0.0 refl (λ m. n (told ∙ ap fault_of_uses m)) in
    written_refused z w is e (inl (inl (misused g clash (bodies is.standing) w.statements w.processes (written_parts z w is) c.in_err-expand.field-0.0 e told (rw c.deref.ensures at refused))))

pub returns-in_err-expand-clause-uses : goal.returns-in_err-expand-clause-uses
returns-in_err-expand-clause-uses c = λ e h n.
    let p = err_from_is_err_and c.from_residual.result c.from_residual.ensures.1 in
    let same : p.0 ≡ e = cc (p.1, h) in
    let told : e ≡ fault_of_uses c.in_err-expand.field-0.0 = sym same ∙ p.2 in
    subst IsOfUses (sym told) (uses_of c.in_err-expand.field-0.0 (λ m. n (told ∙ m)))

pub returns-clause-process : goal.returns-clause-process
returns-clause-process c = record {
  free = rw c.deref.ensures at (c.in_ok-expand.ensures.accepted c.args.file.now.declared.signature);
  small = c.in_ok-expand.ensures.small.0;
  is = rw c.deref.ensures at c.in_ok-expand.ensures.expanded;
}
