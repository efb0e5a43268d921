use Rattle.sap_steps.proofs.Tied.{tied_knows}
use Rattle.sap_steps.proofs.state.RuleState.apply.Goals as goal

pub invariant_of-self-2 : goal.invariant_of-self-2
invariant_of-self-2 c = tied_knows _ _ _ _ _ _ _ c.self.invariant c.in_ok-know_applied.ensures.ok.gains c.know_applied.ensures.slots c.know_applied.ensures.numbered
