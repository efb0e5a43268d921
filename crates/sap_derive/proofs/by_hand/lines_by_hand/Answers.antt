use Rattle.sap_derive.proofs.LinesByHand.{lines-by_hand, found-by_hand}
use Rattle.sap_derive.proofs.by_hand.lines_by_hand.Goals as goal

pub returns-clause-lines : goal.returns-clause-lines
returns-clause-lines c = lines-by_hand c.normal_forms_are_unique.ensures

pub returns-clause-found : goal.returns-clause-found
returns-clause-found c = found-by_hand
