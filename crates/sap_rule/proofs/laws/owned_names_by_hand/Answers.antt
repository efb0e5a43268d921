use Rattle.std.proofs.Common.{None, [], ◌∷◌, refl}
use Rattle.sap_terms.specs.Tree.{fresh}
use Rattle.sap_rule.specs.StepExamples.{state, telling}
use Rattle.sap_rule.proofs.OwnedNames.{gone_one, not_shown, other_shown}
use Rattle.sap_rule.proofs.laws.owned_names_by_hand.Goals as goal

pub returns-clause-taken : goal.returns-clause-taken
returns-clause-taken c = λ g t acts z step e. not_shown g (telling ∷ []) (state (None ∷ []) (fresh 3 ∷ []) (3 ∷ [])) z acts t step refl gone_one e

pub returns-clause-other : goal.returns-clause-other
returns-clause-other c = other_shown c.names_are_messages.ensures
