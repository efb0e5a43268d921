use Rattle.sap_attacks.proofs.LinesByHand.{lines_by_hand}
use Rattle.sap_attacks.specs.ShortRuleExamples.{bare}
use Rattle.sap_attacks.proofs.by_hand.lines_by_hand.Goals as goal

pub returns : goal.returns
returns c = lines_by_hand c.names_are_messages.ensures c.restrictions_say_sentences.ensures.quiet (c.restrictions_by_hand.ensures.known bare)
