use Rattle.sap_macro.proofs.EndsByHand.{body, form_itself, half_way, itself, parameters, parameters_alone, through_two, unknown_itself}
use Rattle.sap_macro.proofs.ending_laws.ends_by_hand.Goals as goal

pub returns-clause-body : goal.returns-clause-body
returns-clause-body c = body

pub returns-clause-itself : goal.returns-clause-itself
returns-clause-itself c = itself

pub returns-clause-through : goal.returns-clause-through
returns-clause-through c = through_two

pub returns-clause-half_way : goal.returns-clause-half_way
returns-clause-half_way c = half_way

pub returns-clause-parameters : goal.returns-clause-parameters
returns-clause-parameters c = parameters

pub returns-clause-parameters_alone : goal.returns-clause-parameters_alone
returns-clause-parameters_alone c = parameters_alone

pub returns-clause-unknown : goal.returns-clause-unknown
returns-clause-unknown c = unknown_itself

pub returns-clause-form : goal.returns-clause-form
returns-clause-form c = form_itself
