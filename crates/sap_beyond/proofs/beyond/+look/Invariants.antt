use Rattle.std.proofs.Common.{◌+◌, ◌*◌}
use Rattle.sap_macro.specs.Sources.{written}
use Rattle.sap_macro.specs.Walked.{steps}
use Rattle.sap_beyond.proofs.beyond.+look.Given as goal

abbrev pub decreases-look : goal.decreases-look
decreases-look l = 4 * steps (λ f. 0) (written l.source.now) + 1

abbrev pub decreases-look_at_place : goal.decreases-look_at_place
decreases-look_at_place l = 4 * steps (λ f. 0) (written l.source.now)

abbrev pub decreases-look_at : goal.decreases-look_at
decreases-look_at l = 4 * steps (λ f. 0) (written l.source.now) + 2

abbrev pub decreases-look_at_both : goal.decreases-look_at_both
decreases-look_at_both l = 4 * (steps (λ f. 0) (written l.first.now) + steps (λ f. 0) (written l.second.now)) + 3
