use Rattle.sap_use_words.proofs.Passed.{each_passed}
use Rattle.sap_use_words.proofs.laws.uses_are_passed.Goals as goal

pub returns : goal.returns
returns c = λ ds n p u order contains. each_passed c.names_stand_for_definitions.ensures.stand ds n p u order contains
