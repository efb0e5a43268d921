use Rattle.std.proofs.Common.{refl}
use Rattle.std.specs.Fmt.{digits}
use Rattle.sap_tell.proofs.told_by_hand.names_behind_by_hand.Goals as goal

pub returns-clause-one : goal.returns-clause-one
unfolding digits
returns-clause-one c = refl

pub returns-clause-none : goal.returns-clause-none
returns-clause-none c = refl
