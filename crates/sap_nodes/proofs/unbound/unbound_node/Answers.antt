use Rattle.std.proofs.Common.{subst, sym, ap, ◌∙◌}
use Rattle.sap_process.specs.Proc.{proc}
use Rattle.sap_process.specs.declared.flaw.Flaw.TheVariants.{Unbound}
use Rattle.sap_nodes.specs.FlawNodes.{IsTold}
use Rattle.sap_nodes.specs.code.Searches.{found_at}
use Rattle.sap_nodes.specs.code.Trails.{head_met}
use Rattle.sap_nodes.specs.declared.trail.Trail.{Trail}
use Rattle.sap_nodes.proofs.UnboundTold.{unbound_told}
use Rattle.sap_nodes.proofs.unbound.unbound_node.Goals as goal

pub returns : goal.returns
returns c = λ g before s e d.
    subst (IsTold g before s Unbound)
    (sym (c.told.ensures ∙ ap (λ (a : Trail). found_at a.search) (c.in_ok-in_head.ensures ∙ ap (λ (a : Trail). head_met a (proc c.args.p.now)) c.in_ok-trail.ensures)))
    (unbound_told g before s (proc c.args.p.now) c.args.scope.now e d)
