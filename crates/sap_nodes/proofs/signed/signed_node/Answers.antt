use Rattle.std.proofs.Common.{subst, sym, ap, ◌∙◌}
use Rattle.sap_process.specs.Proc.{proc}
use Rattle.sap_process.specs.declared.flaw.Flaw.TheVariants.{SortClash}
use Rattle.sap_nodes.specs.FlawNodes.{IsTold}
use Rattle.sap_nodes.specs.code.Searches.{at_first, found_at}
use Rattle.sap_nodes.specs.code.Signs.{patterns_met, terms_met}
use Rattle.sap_nodes.specs.declared.trail.Trail.{Trail}
use Rattle.sap_nodes.proofs.SignedTold.{signed_told}
use Rattle.sap_nodes.proofs.signed.signed_node.Goals as goal

pub returns : goal.returns
returns c = λ g before s e d.
    subst (IsTold g before s SortClash)
    (sym (c.told.ensures
    ∙ ap (λ (a : Trail). found_at a.search)
    (c.in_ok-in_terms_of.ensures
    ∙ ap (λ (a : Trail). terms_met (record { known = a.known; search = at_first }) (proc c.args.p.now))
    (c.in_ok-in_patterns.ensures ∙ ap (λ (a : Trail). patterns_met a (proc c.args.p.now)) c.in_ok-trail.ensures))))
    (signed_told g before s (proc c.args.p.now) c.args.scope.now e d)
