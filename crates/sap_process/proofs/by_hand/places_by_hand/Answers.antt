use Rattle.std.proofs.Common.{refl}
use Rattle.sap_process.proofs.by_hand.places_by_hand.Goals as goal

pub returns-clause-scopes : goal.returns-clause-scopes
returns-clause-scopes c = refl

pub returns-clause-counted : goal.returns-clause-counted
returns-clause-counted c = refl

pub returns-clause-not_in_other_branch : goal.returns-clause-not_in_other_branch
returns-clause-not_in_other_branch c e = cc

pub returns-clause-not_in_second_branch : goal.returns-clause-not_in_second_branch
returns-clause-not_in_second_branch c e = cc

pub returns-clause-not_open_behind : goal.returns-clause-not_open_behind
returns-clause-not_open_behind c e = cc

pub returns-clause-no_third_child : goal.returns-clause-no_third_child
returns-clause-no_third_child c = refl

pub returns-clause-none_below : goal.returns-clause-none_below
returns-clause-none_below c = refl
