use Rattle.std.proofs.Common.{ap, sym, ◌∙◌}
use Rattle.sap_terms.specs.View.{tree, term, term-tree}
use Rattle.sap_terms.specs.Equations.{equations}
use Rattle.sap_rewrite.proofs.NormalForms.{decided}
use Rattle.sap_rewrite.proofs.normal_form.same_modulo.Goals as goal

pub returns : goal.returns
returns c =
    let x = c.in_ok-x.x in
    let y = c.in_ok-y.y in
    let d = decided (equations c.args.sig.now) (tree c.args.a.now) (tree c.args.b.now) (tree x) (tree y) c.in_ok-x.ensures c.in_ok-y.ensures in
    (λ h. d.0 (ap tree (c.same.ensures.equal.0 h)), λ h. c.same.ensures.equal.1 (sym (term-tree x) ∙ ap term (d.1 h) ∙ term-tree y))
