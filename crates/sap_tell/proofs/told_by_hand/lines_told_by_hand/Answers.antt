use Rattle.std.proofs.Common.{codes, [], ◌∷◌, refl}
use Rattle.std.specs.Fmt.{digits}
use Rattle.sap_tell.proofs.LinesByHand.{other_entry, no_outcome, other_outcome, other_term}
use Rattle.sap_tell.specs.Told as told
use Rattle.sap_tell.specs.ToldExamples.{key, both}
use Rattle.sap_tell.proofs.told_by_hand.lines_told_by_hand.Goals as goal

pub returns-clause-event : goal.returns-clause-event
unfolding digits
returns-clause-event c = λ g d p r. record { doing = _; outcomes = _; done = told.shows 2 r; written = refl }

pub returns-clause-lock : goal.returns-clause-lock
unfolding digits
returns-clause-lock c = λ g d p n r. record { doing = _; outcomes = _; done = told.locks 2 r; written = refl }

pub returns-clause-insert : goal.returns-clause-insert
unfolding digits
returns-clause-insert c = λ g d p r. record { doing = _; outcomes = _; done = told.inserts 2 r; written = refl }

pub returns-clause-out : goal.returns-clause-out
unfolding digits
returns-clause-out c = λ g d p r. record { doing = _; outcomes = _; done = told.outputs 2 key r; written = refl }

pub returns-clause-apply : goal.returns-clause-apply
unfolding digits
returns-clause-apply c = λ g d. record { doing = _; outcomes = _; done = told.applies (codes "pair") (1 ∷ 2 ∷ []) both; written = refl }

pub returns-clause-branch : goal.returns-clause-branch
unfolding digits
returns-clause-branch c = λ g d p q r. record { doing = _; outcomes = _; done = told.agrees 0 r; written = refl }

pub returns-clause-other_entry : goal.returns-clause-other_entry
returns-clause-other_entry c = other_entry

pub returns-clause-no_outcome : goal.returns-clause-no_outcome
returns-clause-no_outcome c = no_outcome

pub returns-clause-other_outcome : goal.returns-clause-other_outcome
returns-clause-other_outcome c = other_outcome

pub returns-clause-other_term : goal.returns-clause-other_term
returns-clause-other_term c = other_term
