use Rattle.std.proofs.Common.{refl}
use Rattle.sap_cures.specs.ItemRows.{declaration_rows, head_rows, other_item_rows}
use Rattle.sap_cures.specs.FormulaRows.{fact_rows, sign_rows}
use Rattle.sap_cures.specs.ProcessRows.{closed_rows, condition_rows, end_rows, parenthesis_rows, term_rows}
use Rattle.sap_cures.proofs.laws.formula_cures_by_hand.Goals as goal

pub returns-clause-of_quantifiers : goal.returns-clause-of_quantifiers
unfolding head_rows declaration_rows other_item_rows sign_rows fact_rows condition_rows term_rows parenthesis_rows closed_rows end_rows
returns-clause-of_quantifiers c = refl

pub returns-clause-of_inequalities : goal.returns-clause-of_inequalities
unfolding head_rows declaration_rows other_item_rows sign_rows fact_rows condition_rows term_rows parenthesis_rows closed_rows end_rows
returns-clause-of_inequalities c = refl

pub returns-clause-of_arrows : goal.returns-clause-of_arrows
unfolding head_rows declaration_rows other_item_rows sign_rows fact_rows condition_rows term_rows parenthesis_rows closed_rows end_rows
returns-clause-of_arrows c = refl

pub returns-clause-of_orders : goal.returns-clause-of_orders
unfolding head_rows declaration_rows other_item_rows sign_rows fact_rows condition_rows term_rows parenthesis_rows closed_rows end_rows
returns-clause-of_orders c = refl

pub returns-clause-of_locations : goal.returns-clause-of_locations
unfolding head_rows declaration_rows other_item_rows sign_rows fact_rows condition_rows term_rows parenthesis_rows closed_rows end_rows
returns-clause-of_locations c = refl

pub returns-clause-of_small_facts : goal.returns-clause-of_small_facts
unfolding head_rows declaration_rows other_item_rows sign_rows fact_rows condition_rows term_rows parenthesis_rows closed_rows end_rows
returns-clause-of_small_facts c = refl
