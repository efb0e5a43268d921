use Rattle.std.proofs.Common.{◌≡◌, take, ap, ◌∙◌}
use Rattle.std.proofs.lemmas.List.{take_all}
use Rattle.sap_terms.specs.Subst.{bound_to}
use Rattle.sap_process.proofs.OtherNames.{others, choice-others}
use Rattle.sap_process.proofs.substituting.hiding.Goals as goal

pub returns : goal.returns
returns c =
    let items = c.as_slice-e-items.result.now in
    let b = c.args.b.now in
    let x = c.args.x.now in
    let whole : take c.loop-e.e-index items ≡ b = take_all c.loop-e.e-index items c.loop-e-test.false ∙ c.as_slice-e-items.ensures in
    ap bound_to (c.loop-e.invariant ∙ ap (others x) whole) ∙ choice-others x b
