use Rattle.std.proofs.Common.{[], ◌∷◌, refl}
use Rattle.sap_rule.specs.StepExamples.{moving, state, taking_twice}
use Rattle.sap_rule.proofs.ExactUses.{moved, not_twice}
use Rattle.sap_rule.proofs.laws.exact_uses_by_hand.Goals as goal

pub returns-clause-uses : goal.returns-clause-uses
returns-clause-uses c = λ g s slot made u acts z step e. moved c.normal_forms_are_unique.ensures g s slot (moving s ∷ []) (state (slot ∷ []) [] made) z acts u step refl refl refl e

pub returns-clause-twice : goal.returns-clause-twice
returns-clause-twice c = λ g acts z step e. not_twice g (taking_twice ∷ []) _ z acts step refl refl refl e
