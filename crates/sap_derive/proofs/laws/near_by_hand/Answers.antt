use Rattle.sap_derive.proofs.ByHand.{standing-by_hand, near-by_hand}
use Rattle.sap_derive.proofs.laws.near_by_hand.Goals as goal

pub returns-clause-standing : goal.returns-clause-standing
returns-clause-standing c = standing-by_hand

pub returns-clause-near : goal.returns-clause-near
returns-clause-near c = near-by_hand
