use Rattle.sap_origin.proofs.TrailUses.{above_place, trail_words}
use Rattle.sap_origin.proofs.laws.trails_are_uses.Goals as goal

pub returns-clause-along : goal.returns-clause-along
returns-clause-along c = λ ds v s z p q path r. above_place ds v r

pub returns-clause-words : goal.returns-clause-words
returns-clause-words c = trail_words
