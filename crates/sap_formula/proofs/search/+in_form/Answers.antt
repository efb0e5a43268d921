use Rattle.sap_formula.specs.Checked.{enter}
use Rattle.sap_formula.specs.View.{form}
use Rattle.sap_formula.specs.code.Scoped.{binders}
use Rattle.sap_formula.proofs.Elsewhere.{elsewhere}
use Rattle.sap_formula.proofs.search.+in_form.Goals as goal

pub in_body-returns-in_default : goal.in_body-returns-in_default
in_body-returns-in_default t c =
    let a = c.args.aim.now in
    let s = binders c.args.scope.now in
    let e = elsewhere a.sig.now a.reserved a.which s (enter c.args.bs.now s) (form c.args.f.now) c.in_default.not-UnboundVar in
    rw e at c.in_form-in_default.ensures
