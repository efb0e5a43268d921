use Rattle.std.proofs.Common.{refl}
use Rattle.sap_cures.specs.ItemRows.{declaration_rows, head_rows, other_item_rows}
use Rattle.sap_cures.specs.FormulaRows.{fact_rows, sign_rows}
use Rattle.sap_cures.specs.ProcessRows.{closed_rows, condition_rows, end_rows, parenthesis_rows, term_rows}
use Rattle.sap_cures.proofs.laws.item_cures_by_hand.Goals as goal

pub returns-clause-of_reserved_words : goal.returns-clause-of_reserved_words
unfolding head_rows declaration_rows other_item_rows sign_rows fact_rows condition_rows term_rows parenthesis_rows closed_rows end_rows
returns-clause-of_reserved_words c = refl

pub returns-clause-of_heads : goal.returns-clause-of_heads
unfolding head_rows declaration_rows other_item_rows sign_rows fact_rows condition_rows term_rows parenthesis_rows closed_rows end_rows
returns-clause-of_heads c = refl

pub returns-clause-of_builtins : goal.returns-clause-of_builtins
unfolding head_rows declaration_rows other_item_rows sign_rows fact_rows condition_rows term_rows parenthesis_rows closed_rows end_rows
returns-clause-of_builtins c = refl

pub returns-clause-of_functions : goal.returns-clause-of_functions
unfolding head_rows declaration_rows other_item_rows sign_rows fact_rows condition_rows term_rows parenthesis_rows closed_rows end_rows
returns-clause-of_functions c = refl

pub returns-clause-of_private_functions : goal.returns-clause-of_private_functions
unfolding head_rows declaration_rows other_item_rows sign_rows fact_rows condition_rows term_rows parenthesis_rows closed_rows end_rows
returns-clause-of_private_functions c = refl

pub returns-clause-of_lets : goal.returns-clause-of_lets
unfolding head_rows declaration_rows other_item_rows sign_rows fact_rows condition_rows term_rows parenthesis_rows closed_rows end_rows
returns-clause-of_lets c = refl

pub returns-clause-of_items_left_out : goal.returns-clause-of_items_left_out
unfolding head_rows declaration_rows other_item_rows sign_rows fact_rows condition_rows term_rows parenthesis_rows closed_rows end_rows
returns-clause-of_items_left_out c = refl

pub returns-clause-of_items_with_names : goal.returns-clause-of_items_with_names
unfolding head_rows declaration_rows other_item_rows sign_rows fact_rows condition_rows term_rows parenthesis_rows closed_rows end_rows
returns-clause-of_items_with_names c = refl
