use Rattle.sap_macro.proofs.ByHand.{equal, other}
use Rattle.sap_macro.proofs.by_hand.equal_up_to_names_by_hand.Goals as goal

pub returns-clause-equal : goal.returns-clause-equal
returns-clause-equal c = equal

pub returns-clause-other : goal.returns-clause-other
returns-clause-other c = other
