use Rattle.std.proofs.Common.{subst, sym}
use Rattle.sap_process.specs.Proc.{proc}
use Rattle.sap_process.specs.declared.flaw.Flaw.TheVariants.{Rebound}
use Rattle.sap_nodes.specs.FlawNodes.{IsTold}
use Rattle.sap_nodes.proofs.ReboundTold.{rebound_told}
use Rattle.sap_nodes.proofs.bound.rebound_node.Goals as goal

pub returns : goal.returns
returns c = λ g before s e d.
    subst (IsTold g before s Rebound) (sym c.binder_node.ensures) (rebound_told g before s (proc c.args.p.now) c.args.scope.now e d)
