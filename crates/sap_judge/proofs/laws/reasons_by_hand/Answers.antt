use Rattle.sap_judge.proofs.ReasonsByHand.{others_are_none, reasons_are}
use Rattle.sap_judge.proofs.laws.reasons_by_hand.Goals as goal

pub returns-clause-are : goal.returns-clause-are
returns-clause-are c = reasons_are c.leaves_are_normal.ensures c.claims_give_reasons.ensures

pub returns-clause-others : goal.returns-clause-others
returns-clause-others c = others_are_none c.leaves_are_normal.ensures c.claims_give_reasons.ensures c.there_is_a_reason.ensures.one
