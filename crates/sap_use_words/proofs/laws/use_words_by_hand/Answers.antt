use Rattle.std.proofs.Common.{refl}
use Rattle.sap_use_words.proofs.laws.use_words_by_hand.Goals as goal

pub returns-clause-other_in_body : goal.returns-clause-other_in_body
returns-clause-other_in_body c = refl

pub returns-clause-other_first : goal.returns-clause-other_first
returns-clause-other_first c = refl

pub returns-clause-other_second : goal.returns-clause-other_second
returns-clause-other_second c = refl

pub returns-clause-no_other : goal.returns-clause-no_other
returns-clause-no_other c = refl

pub returns-clause-in_body : goal.returns-clause-in_body
returns-clause-in_body c = refl

pub returns-clause-body_first : goal.returns-clause-body_first
returns-clause-body_first c = refl

pub returns-clause-body_second : goal.returns-clause-body_second
returns-clause-body_second c = refl

pub returns-clause-caller : goal.returns-clause-caller
returns-clause-caller c = refl

pub returns-clause-through_plain : goal.returns-clause-through_plain
returns-clause-through_plain c = refl

pub returns-clause-none_large : goal.returns-clause-none_large
returns-clause-none_large c = refl

pub returns-clause-none_handed : goal.returns-clause-none_handed
returns-clause-none_handed c = refl

pub returns-clause-none_used : goal.returns-clause-none_used
returns-clause-none_used c = refl
