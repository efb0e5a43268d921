use Rattle.std.proofs.Common.{refl}
use Rattle.sap_stems.proofs.laws.likeness_by_hand.Goals as goal

pub returns-clause-symbols : goal.returns-clause-symbols
returns-clause-symbols c = (refl, refl)

pub returns-clause-variables : goal.returns-clause-variables
returns-clause-variables c = refl

pub returns-clause-binders : goal.returns-clause-binders
returns-clause-binders c = refl

pub returns-clause-no_argument : goal.returns-clause-no_argument
returns-clause-no_argument c = refl

pub returns-clause-no_other_symbol : goal.returns-clause-no_other_symbol
returns-clause-no_other_symbol c = λ h. let e = h.0 in cc (e)

pub returns-clause-no_other_number : goal.returns-clause-no_other_number
returns-clause-no_other_number c = λ h. let e = h.1 in cc (e)

pub returns-clause-no_other_name : goal.returns-clause-no_other_name
returns-clause-no_other_name c = λ e. cc (e)

pub returns-clause-no_other_fresh_name : goal.returns-clause-no_other_fresh_name
returns-clause-no_other_fresh_name c = λ e. cc (e)

pub returns-clause-no_other_sort : goal.returns-clause-no_other_sort
returns-clause-no_other_sort c = λ e. cc (e)

pub returns-clause-no_name_for_a_variable : goal.returns-clause-no_name_for_a_variable
returns-clause-no_name_for_a_variable c = λ e. cc (e)

pub returns-clause-no_binder_for_a_variable : goal.returns-clause-no_binder_for_a_variable
returns-clause-no_binder_for_a_variable c = λ h. h

pub returns-clause-no_variable_for_a_symbol : goal.returns-clause-no_variable_for_a_symbol
returns-clause-no_variable_for_a_symbol c = λ h. h
