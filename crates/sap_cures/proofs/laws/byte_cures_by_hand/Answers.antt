use Rattle.std.proofs.Common.{refl}
use Rattle.sap_cures.specs.ByteRows.{mark_rows, sign_rows}
use Rattle.sap_cures.proofs.laws.byte_cures_by_hand.Goals as goal

pub returns-clause-of_braces_and_choices : goal.returns-clause-of_braces_and_choices
unfolding mark_rows sign_rows
returns-clause-of_braces_and_choices c = refl

pub returns-clause-of_operators : goal.returns-clause-of_operators
unfolding mark_rows sign_rows
returns-clause-of_operators c = refl

pub returns-clause-of_signs_of_formulas : goal.returns-clause-of_signs_of_formulas
unfolding mark_rows sign_rows
returns-clause-of_signs_of_formulas c = refl

pub returns-clause-of_other_signs : goal.returns-clause-of_other_signs
unfolding mark_rows sign_rows
returns-clause-of_other_signs c = refl
