use Rattle.std.proofs.Common.{refl}
use Rattle.sap_tell.proofs.roles_by_hand.players_by_hand.Goals as goal

pub returns-clause-event : goal.returns-clause-event
returns-clause-event c = refl

pub returns-clause-branch : goal.returns-clause-branch
returns-clause-branch c = refl

pub returns-clause-meet : goal.returns-clause-meet
returns-clause-meet c = refl

pub returns-clause-turned : goal.returns-clause-turned
returns-clause-turned c = refl

pub returns-clause-none : goal.returns-clause-none
returns-clause-none c = refl

pub returns-clause-ends : goal.returns-clause-ends
returns-clause-ends c = refl

pub returns-clause-begins : goal.returns-clause-begins
returns-clause-begins c = refl

pub returns-clause-copies : goal.returns-clause-copies
returns-clause-copies c = refl

pub returns-clause-adversary : goal.returns-clause-adversary
returns-clause-adversary c = refl

pub returns-clause-moved : goal.returns-clause-moved
returns-clause-moved c = refl
