use Rattle.sap_formula.proofs.ByHand.{other_name, any_fact, tables_true, tables_false, other_time, equal_up_to_theory, equal_to_no_other, same_time, another_time, up_to_theory, persistent, all_terms, sorts, public_names, innermost}
use Rattle.sap_formula.proofs.laws.truth_by_hand.Goals as goal

pub returns-clause-other_time : goal.returns-clause-other_time
returns-clause-other_time c = other_time c.names_are_messages.ensures c.normal_terms_decide.ensures

pub returns-clause-up_to_theory : goal.returns-clause-up_to_theory
returns-clause-up_to_theory c = up_to_theory

pub returns-clause-persistent : goal.returns-clause-persistent
returns-clause-persistent c = persistent

pub returns-clause-all_terms : goal.returns-clause-all_terms
returns-clause-all_terms c = all_terms c.names_are_messages.ensures

pub returns-clause-sorts : goal.returns-clause-sorts
returns-clause-sorts c = sorts c.names_are_messages.ensures c.normal_terms_decide.ensures

pub returns-clause-innermost : goal.returns-clause-innermost
returns-clause-innermost c = innermost c.names_are_messages.ensures

pub returns-clause-true_ones : goal.returns-clause-true_ones
returns-clause-true_ones c = tables_true

pub returns-clause-false_ones : goal.returns-clause-false_ones
returns-clause-false_ones c = tables_false

pub returns-clause-equal_up_to_theory : goal.returns-clause-equal_up_to_theory
returns-clause-equal_up_to_theory c = equal_up_to_theory

pub returns-clause-equal_to_no_other : goal.returns-clause-equal_to_no_other
returns-clause-equal_to_no_other c = equal_to_no_other c.names_are_messages.ensures c.normal_terms_decide.ensures

pub returns-clause-same_time : goal.returns-clause-same_time
returns-clause-same_time c = same_time c.names_are_messages.ensures c.normal_terms_decide.ensures

pub returns-clause-another_time : goal.returns-clause-another_time
returns-clause-another_time c = another_time

pub returns-clause-public_names : goal.returns-clause-public_names
returns-clause-public_names c = public_names c.names_are_messages.ensures

pub returns-clause-other_name : goal.returns-clause-other_name
returns-clause-other_name c = other_name

pub returns-clause-any_fact : goal.returns-clause-any_fact
returns-clause-any_fact c = any_fact
