use Rattle.std.proofs.Common.{[], arith}
use Rattle.sap_process.specs.Proc.{nil, act}
use Rattle.sap_process.specs.declared.flaw.Flaw.TheVariants.{BadFunction, ReservedVar, ReservedFact, FactClash, PatternDestructor, Unbound, Rebound, SortClash}
use Rattle.sap_nodes.specs.NodeExamples.{c_and_x, at_root, destructors, unknown_symbols, two_variables, with_public, two_signs, twice_reserved, reserved_facts, clashing, found_again}
use Rattle.sap_nodes.proofs.NodesByHand.{no_other, in_the_pattern, unknown, nothing_binds, nothing_binds_in_rule, other_sign, reserved_variable, reserved_fact_shown, other_form, bound_again}
use Rattle.sap_nodes.proofs.laws.nodes_by_hand.Goals as goal

pub returns-clause-destructor : goal.returns-clause-destructor
returns-clause-destructor c = in_the_pattern

pub returns-clause-not_on_channel : goal.returns-clause-not_on_channel
returns-clause-not_on_channel c = no_other (at_root c_and_x (act destructors nil)) PatternDestructor 4 0 in_the_pattern (λ e. omega (arith, e))

pub returns-clause-symbol : goal.returns-clause-symbol
returns-clause-symbol c = unknown

pub returns-clause-not_second_symbol : goal.returns-clause-not_second_symbol
returns-clause-not_second_symbol c = no_other (at_root c_and_x (act unknown_symbols nil)) BadFunction 1 3 unknown (λ e. omega (arith, e))

pub returns-clause-unbound : goal.returns-clause-unbound
returns-clause-unbound c = nothing_binds

pub returns-clause-not_bound_one : goal.returns-clause-not_bound_one
returns-clause-not_bound_one c = no_other (at_root c_and_x (act two_variables nil)) Unbound 2 1 nothing_binds (λ e. omega (arith, e))

pub returns-clause-unbound_in_rule : goal.returns-clause-unbound_in_rule
returns-clause-unbound_in_rule c = nothing_binds_in_rule

pub returns-clause-not_public_one : goal.returns-clause-not_public_one
returns-clause-not_public_one c = no_other (at_root [] (act with_public nil)) Unbound 4 3 nothing_binds_in_rule (λ e. omega (arith, e))

pub returns-clause-sign : goal.returns-clause-sign
returns-clause-sign c = other_sign

pub returns-clause-not_own_sign : goal.returns-clause-not_own_sign
returns-clause-not_own_sign c = no_other (at_root c_and_x (act two_signs nil)) SortClash 2 1 other_sign (λ e. omega (arith, e))

pub returns-clause-reserved_variable : goal.returns-clause-reserved_variable
returns-clause-reserved_variable c = reserved_variable

pub returns-clause-not_second_variable : goal.returns-clause-not_second_variable
returns-clause-not_second_variable c = no_other (at_root [] (act twice_reserved nil)) ReservedVar 2 3 reserved_variable (λ e. omega (arith, e))

pub returns-clause-reserved_fact : goal.returns-clause-reserved_fact
returns-clause-reserved_fact c = reserved_fact_shown

pub returns-clause-not_added_fact : goal.returns-clause-not_added_fact
returns-clause-not_added_fact c = no_other (at_root c_and_x (act reserved_facts nil)) ReservedFact 2 4 reserved_fact_shown (λ e. omega (arith, e))

pub returns-clause-binder : goal.returns-clause-binder
returns-clause-binder c = bound_again

pub returns-clause-not_key : goal.returns-clause-not_key
returns-clause-not_key c = no_other (at_root c_and_x found_again) Rebound 1 0 bound_again (λ e. omega (arith, e))

pub returns-clause-fact : goal.returns-clause-fact
returns-clause-fact c = other_form

pub returns-clause-not_shown_fact : goal.returns-clause-not_shown_fact
returns-clause-not_shown_fact c = no_other (at_root c_and_x (act clashing nil)) FactClash 5 2 other_form (λ e. omega (arith, e))
