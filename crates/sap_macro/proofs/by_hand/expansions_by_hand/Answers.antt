use Rattle.std.proofs.Common.{refl}
use Rattle.std.specs.Fmt.{digits}
use Rattle.sap_macro.proofs.by_hand.expansions_by_hand.Goals as goal

pub returns-clause-renames : goal.returns-clause-renames
unfolding digits
returns-clause-renames c = refl

pub returns-clause-first_free : goal.returns-clause-first_free
unfolding digits
returns-clause-first_free c = refl

pub returns-clause-once_a_use : goal.returns-clause-once_a_use
unfolding digits
returns-clause-once_a_use c = refl

pub returns-clause-at_once : goal.returns-clause-at_once
returns-clause-at_once c = refl

pub returns-clause-plain_first : goal.returns-clause-plain_first
returns-clause-plain_first c = refl

pub returns-clause-inner_later : goal.returns-clause-inner_later
unfolding digits
returns-clause-inner_later c = refl

pub returns-clause-no_new_parameter : goal.returns-clause-no_new_parameter
unfolding digits
returns-clause-no_new_parameter c = refl

pub returns-clause-no_argument : goal.returns-clause-no_argument
returns-clause-no_argument c = refl

pub returns-clause-sapic : goal.returns-clause-sapic
unfolding digits
returns-clause-sapic c = refl

pub returns-clause-each_form : goal.returns-clause-each_form
unfolding digits
returns-clause-each_form c = refl

pub returns-clause-sapic_alone : goal.returns-clause-sapic_alone
unfolding digits
returns-clause-sapic_alone c = refl
