use Rattle.std.proofs.Common.{refl}
use Rattle.std.specs.Fmt.{digits}
use Rattle.sap_called.proofs.Apart.{differ}
use Rattle.sap_called.proofs.by_hand.terms_by_hand.Goals as goal

pub returns-clause-term : goal.returns-clause-term
unfolding digits
returns-clause-term c = refl

pub returns-clause-early : goal.returns-clause-early
unfolding digits
returns-clause-early c = refl

pub returns-clause-fact : goal.returns-clause-fact
unfolding digits
returns-clause-fact c = refl

pub returns-clause-side : goal.returns-clause-side
unfolding digits
returns-clause-side c = refl

pub returns-clause-arrow : goal.returns-clause-arrow
unfolding digits
returns-clause-arrow c = refl

pub returns-clause-other : goal.returns-clause-other
unfolding digits
returns-clause-other c = differ refl refl

pub returns-clause-no_sign : goal.returns-clause-no_sign
unfolding digits
returns-clause-no_sign c = differ refl refl
