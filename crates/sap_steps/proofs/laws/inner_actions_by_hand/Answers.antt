use Rattle.std.proofs.Common.{refl}
use Rattle.sap_steps.proofs.laws.inner_actions_by_hand.Goals as goal

pub returns : goal.returns
returns c = refl
