use Rattle.sap_attacks.proofs.RefusedByHand.{refused_by_hand}
use Rattle.sap_attacks.specs.ShortRuleExamples.{bare}
use Rattle.sap_attacks.proofs.by_hand.refused_by_hand.Goals as goal

pub returns : goal.returns
returns c = refused_by_hand c.names_are_messages.ensures c.restrictions_say_sentences.ensures.quiet (c.restrictions_by_hand.ensures.not_equal bare) c.normal_forms_are_unique.ensures
