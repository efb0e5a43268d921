use Rattle.std.proofs.Common.{refl}
use Rattle.std.specs.Fmt.{digits}
use Rattle.sap_tell.proofs.LinesByHand.{differ}
use Rattle.sap_tell.proofs.said.said_by_hand.Goals as goal

pub returns-clause-out : goal.returns-clause-out
unfolding digits
returns-clause-out c = refl

pub returns-clause-out_evaluated : goal.returns-clause-out_evaluated
unfolding digits
returns-clause-out_evaluated c = refl

pub returns-clause-out_on : goal.returns-clause-out_on
unfolding digits
returns-clause-out_on c = refl

pub returns-clause-comparison : goal.returns-clause-comparison
unfolding digits
returns-clause-comparison c = refl

pub returns-clause-same : goal.returns-clause-same
unfolding digits
returns-clause-same c = refl

pub returns-clause-insertion : goal.returns-clause-insertion
unfolding digits
returns-clause-insertion c = refl

pub returns-clause-lock : goal.returns-clause-lock
unfolding digits
returns-clause-lock c = refl

pub returns-clause-lookup : goal.returns-clause-lookup
unfolding digits
returns-clause-lookup c = refl

pub returns-clause-event : goal.returns-clause-event
unfolding digits
returns-clause-event c = refl

pub returns-clause-event_same : goal.returns-clause-event_same
unfolding digits
returns-clause-event_same c = refl

pub returns-clause-taken : goal.returns-clause-taken
unfolding digits
returns-clause-taken c = refl

pub returns-clause-taken_pair : goal.returns-clause-taken_pair
unfolding digits
returns-clause-taken_pair c = refl

pub returns-clause-symbol : goal.returns-clause-symbol
unfolding digits
returns-clause-symbol c = refl

pub returns-clause-constant : goal.returns-clause-constant
unfolding digits
returns-clause-constant c = refl

pub returns-clause-few : goal.returns-clause-few
unfolding digits
returns-clause-few c = refl

pub returns-clause-many : goal.returns-clause-many
unfolding digits
returns-clause-many c = refl

pub returns-clause-not_evaluated_alone : goal.returns-clause-not_evaluated_alone
unfolding digits
returns-clause-not_evaluated_alone c = differ refl refl

pub returns-clause-not_standing_alone : goal.returns-clause-not_standing_alone
unfolding digits
returns-clause-not_standing_alone c = differ refl refl

pub returns-clause-not_one_of_two : goal.returns-clause-not_one_of_two
unfolding digits
returns-clause-not_one_of_two c = differ refl refl

pub returns-clause-not_open : goal.returns-clause-not_open
unfolding digits
returns-clause-not_open c = differ refl refl
