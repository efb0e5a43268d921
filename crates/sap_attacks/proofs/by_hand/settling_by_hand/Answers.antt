use Rattle.sap_attacks.proofs.SettlesByHand.{settles_by_hand}
use Rattle.sap_attacks.proofs.by_hand.settling_by_hand.Goals as goal

pub returns : goal.returns
returns c = settles_by_hand c.names_are_messages.ensures
