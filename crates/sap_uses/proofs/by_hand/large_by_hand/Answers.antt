use Rattle.std.proofs.Common.{refl}
use Rattle.sap_uses.proofs.by_hand.large_by_hand.Goals as goal

pub returns-clause-most : goal.returns-clause-most
returns-clause-most c = refl

pub returns-clause-beyond : goal.returns-clause-beyond
returns-clause-beyond c = refl

pub returns-clause-doubled : goal.returns-clause-doubled
returns-clause-doubled c = refl

pub returns-clause-doubled_again : goal.returns-clause-doubled_again
returns-clause-doubled_again c = refl

pub returns-clause-first : goal.returns-clause-first
returns-clause-first c = refl

pub returns-clause-outer : goal.returns-clause-outer
returns-clause-outer c = refl

pub returns-clause-second : goal.returns-clause-second
returns-clause-second c = refl

pub returns-clause-in_first : goal.returns-clause-in_first
returns-clause-in_first c = refl

pub returns-clause-in_second : goal.returns-clause-in_second
returns-clause-in_second c = refl

pub returns-clause-its_own : goal.returns-clause-its_own
returns-clause-its_own c = refl

pub returns-clause-handed_on : goal.returns-clause-handed_on
returns-clause-handed_on c = refl

pub returns-clause-plain : goal.returns-clause-plain
returns-clause-plain c = refl

pub returns-clause-through_plain : goal.returns-clause-through_plain
returns-clause-through_plain c = refl

pub returns-clause-unreached : goal.returns-clause-unreached
returns-clause-unreached c = refl
