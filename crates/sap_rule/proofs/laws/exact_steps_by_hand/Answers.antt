use Rattle.std.proofs.Common.{[], refl}
use Rattle.sap_rule.specs.RuleSteps.{empty_state}
use Rattle.sap_rule.specs.StepExamples.{state}
use Rattle.sap_rule.proofs.ExactSteps.{drawn, drawn_alone, given, given_alone, named, known_first, applied, normal_alone}
use Rattle.sap_rule.proofs.laws.exact_steps_by_hand.Goals as goal

pub returns-clause-makes_name : goal.returns-clause-makes_name
returns-clause-makes_name c = drawn

pub returns-clause-makes_name_alone : goal.returns-clause-makes_name_alone
returns-clause-makes_name_alone c = drawn_alone

pub returns-clause-knows_fresh : goal.returns-clause-knows_fresh
returns-clause-knows_fresh c = λ g rules facts made n acts z step e. named c.normal_forms_are_unique.ensures g rules (state facts [] made) z acts n step refl e

pub returns-clause-knows_first : goal.returns-clause-knows_first
returns-clause-knows_first c = λ g rules t acts z step e. known_first c.normal_forms_are_unique.ensures g rules empty_state z acts t step refl refl e

pub returns-clause-applies : goal.returns-clause-applies
returns-clause-applies c = λ g rules f t acts z step e. applied c.normal_forms_are_unique.ensures g rules _ z acts f t step refl refl e

pub returns-clause-applies_normal : goal.returns-clause-applies_normal
returns-clause-applies_normal c = λ g rules acts z step e. normal_alone g rules _ z acts step refl refl e

pub returns-clause-gives : goal.returns-clause-gives
returns-clause-gives c = given

pub returns-clause-gives_alone : goal.returns-clause-gives_alone
returns-clause-gives_alone c = given_alone
