use Rattle.std.proofs.Common.{refl}
use Rattle.sap_tell.proofs.told_by_hand.paths_by_hand.Goals as goal

pub returns-clause-first : goal.returns-clause-first
returns-clause-first c = refl

pub returns-clause-later : goal.returns-clause-later
returns-clause-later c = refl

pub returns-clause-met : goal.returns-clause-met
returns-clause-met c = refl
