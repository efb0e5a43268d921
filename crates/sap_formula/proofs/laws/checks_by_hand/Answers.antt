use Rattle.sap_formula.proofs.ChecksByHand.{functions_told, destructors_told, reserved_told, unbound_told, unguarded_told, everywhere, first_function, first_unbound, first_unguarded, function_told, destructor_told, name_told, variable_told, none, reserved_allowed, declared_alone, with_its_equation, sorts}
use Rattle.sap_formula.proofs.laws.checks_by_hand.Goals as goal

pub returns-clause-bad_function : goal.returns-clause-bad_function
returns-clause-bad_function c = functions_told

pub returns-clause-destructor : goal.returns-clause-destructor
returns-clause-destructor c = destructors_told

pub returns-clause-reserved : goal.returns-clause-reserved
returns-clause-reserved c = reserved_told

pub returns-clause-unbound : goal.returns-clause-unbound
returns-clause-unbound c = unbound_told

pub returns-clause-unguarded : goal.returns-clause-unguarded
returns-clause-unguarded c = unguarded_told

pub returns-clause-first_function : goal.returns-clause-first_function
returns-clause-first_function c = first_function

pub returns-clause-first_unbound : goal.returns-clause-first_unbound
returns-clause-first_unbound c = first_unbound

pub returns-clause-first_unguarded : goal.returns-clause-first_unguarded
returns-clause-first_unguarded c = first_unguarded

pub returns-clause-function_before : goal.returns-clause-function_before
returns-clause-function_before c = function_told

pub returns-clause-destructor_before : goal.returns-clause-destructor_before
returns-clause-destructor_before c = destructor_told

pub returns-clause-reserved_before : goal.returns-clause-reserved_before
returns-clause-reserved_before c = name_told

pub returns-clause-unbound_before : goal.returns-clause-unbound_before
returns-clause-unbound_before c = variable_told

pub returns-clause-none : goal.returns-clause-none
returns-clause-none c = none

pub returns-clause-reserved_allowed : goal.returns-clause-reserved_allowed
returns-clause-reserved_allowed c = reserved_allowed

pub returns-clause-declared_alone : goal.returns-clause-declared_alone
returns-clause-declared_alone c = declared_alone

pub returns-clause-with_its_equation : goal.returns-clause-with_its_equation
returns-clause-with_its_equation c = with_its_equation

pub returns-clause-sorts : goal.returns-clause-sorts
returns-clause-sorts c = sorts

pub returns-clause-everywhere : goal.returns-clause-everywhere
returns-clause-everywhere c = everywhere
