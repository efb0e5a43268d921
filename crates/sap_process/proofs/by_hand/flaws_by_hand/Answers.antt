use Rattle.sap_process.proofs.FlawsByHand.{flawed, near, order, first_places}
use Rattle.sap_process.proofs.by_hand.flaws_by_hand.Goals as goal

pub returns-clause-flawed : goal.returns-clause-flawed
returns-clause-flawed c = flawed

pub returns-clause-near : goal.returns-clause-near
returns-clause-near c = near

pub returns-clause-order : goal.returns-clause-order
returns-clause-order c = order

pub returns-clause-first_place : goal.returns-clause-first_place
returns-clause-first_place c = first_places
