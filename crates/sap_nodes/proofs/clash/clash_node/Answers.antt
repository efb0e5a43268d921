use Rattle.std.proofs.Common.{subst, sym, ap, ◌∙◌}
use Rattle.std.specs.Prelude.{take}
use Rattle.sap_process.specs.Proc.{proc}
use Rattle.sap_process.specs.Sites.{sites_in}
use Rattle.sap_process.specs.declared.flaw.Flaw.TheVariants.{FactClash}
use Rattle.sap_nodes.specs.FlawNodes.{IsTold}
use Rattle.sap_nodes.specs.code.Clashes.{clash_along, nothing_noted}
use Rattle.sap_nodes.specs.code.Searches.{found_at}
use Rattle.sap_nodes.specs.declared.clash.Facts.{Facts}
use Rattle.sap_nodes.proofs.ClashTold.{clash_found}
use Rattle.sap_nodes.proofs.clash.clash_node.Goals as goal

pub returns : goal.returns
returns c = λ scope k s e d g.
    subst (IsTold g (take k (sites_in scope (proc c.args.p.now))) s FactClash)
    (sym (c.told.ensures
    ∙ ap (λ (a : Facts). found_at a.search)
    (c.in_ok-along.ensures
    ∙ ap (λ a. clash_along a c.as_slice.result.now (proc c.args.p.now)) c.new-facts.ensures
    ∙ ap (λ v. clash_along nothing_noted v (proc c.args.p.now)) c.as_slice.ensures.is)))
    (clash_found g scope (proc c.args.p.now) c.args.path.now k s e d)
