use Rattle.std.proofs.Common.{◌≡◌, take, subst, ◌∙◌}
use Rattle.std.proofs.lemmas.List.{take_all}
use Rattle.sap_terms.specs.Subst.{bound_to}
use Rattle.sap_process.specs.Instance.{without}
use Rattle.sap_process.proofs.OtherNames.{others, choice-others}
use Rattle.sap_process.proofs.substituting.binds.Goals as goal

pub returns : goal.returns
returns c = λ _.
    let items = c.as_slice-e-items.result.now in
    let b = c.args.b.now in
    let x = c.args.x.now in
    let whole : take c.loop-e.e-index items ≡ b = take_all c.loop-e.e-index items c.loop-e-test.false ∙ c.as_slice-e-items.ensures in
    let kept : others x b ≡ b = subst (λ l. others x l ≡ l) whole c.loop-e.invariant in
    subst (λ l. bound_to l ≡ without (bound_to b) x) kept (choice-others x b)
