use Rattle.std.proofs.Common.{refl}
use Rattle.sap_cures.specs.ItemRows.{declaration_rows, head_rows, other_item_rows}
use Rattle.sap_cures.specs.FormulaRows.{fact_rows, sign_rows}
use Rattle.sap_cures.specs.ProcessRows.{closed_rows, condition_rows, end_rows, parenthesis_rows, term_rows}
use Rattle.sap_cures.proofs.laws.process_cures_by_hand.Goals as goal

pub returns-clause-of_lookups : goal.returns-clause-of_lookups
unfolding head_rows declaration_rows other_item_rows sign_rows fact_rows condition_rows term_rows parenthesis_rows closed_rows end_rows
returns-clause-of_lookups c = refl

pub returns-clause-of_conditions : goal.returns-clause-of_conditions
unfolding head_rows declaration_rows other_item_rows sign_rows fact_rows condition_rows term_rows parenthesis_rows closed_rows end_rows
returns-clause-of_conditions c = refl

pub returns-clause-of_joined_conditions : goal.returns-clause-of_joined_conditions
unfolding head_rows declaration_rows other_item_rows sign_rows fact_rows condition_rows term_rows parenthesis_rows closed_rows end_rows
returns-clause-of_joined_conditions c = refl

pub returns-clause-of_terms : goal.returns-clause-of_terms
unfolding head_rows declaration_rows other_item_rows sign_rows fact_rows condition_rows term_rows parenthesis_rows closed_rows end_rows
returns-clause-of_terms c = refl

pub returns-clause-of_events : goal.returns-clause-of_events
unfolding head_rows declaration_rows other_item_rows sign_rows fact_rows condition_rows term_rows parenthesis_rows closed_rows end_rows
returns-clause-of_events c = refl

pub returns-clause-of_open_parentheses : goal.returns-clause-of_open_parentheses
unfolding head_rows declaration_rows other_item_rows sign_rows fact_rows condition_rows term_rows parenthesis_rows closed_rows end_rows
returns-clause-of_open_parentheses c = refl

pub returns-clause-of_closed_processes : goal.returns-clause-of_closed_processes
unfolding head_rows declaration_rows other_item_rows sign_rows fact_rows condition_rows term_rows parenthesis_rows closed_rows end_rows
returns-clause-of_closed_processes c = refl

pub returns-clause-of_closed_parentheses : goal.returns-clause-of_closed_parentheses
unfolding head_rows declaration_rows other_item_rows sign_rows fact_rows condition_rows term_rows parenthesis_rows closed_rows end_rows
returns-clause-of_closed_parentheses c = refl

pub returns-clause-of_closing_marks : goal.returns-clause-of_closing_marks
unfolding head_rows declaration_rows other_item_rows sign_rows fact_rows condition_rows term_rows parenthesis_rows closed_rows end_rows
returns-clause-of_closing_marks c = refl

pub returns-clause-of_ends : goal.returns-clause-of_ends
unfolding head_rows declaration_rows other_item_rows sign_rows fact_rows condition_rows term_rows parenthesis_rows closed_rows end_rows
returns-clause-of_ends c = refl

pub returns-clause-of_joined_actions : goal.returns-clause-of_joined_actions
unfolding head_rows declaration_rows other_item_rows sign_rows fact_rows condition_rows term_rows parenthesis_rows closed_rows end_rows
returns-clause-of_joined_actions c = refl
