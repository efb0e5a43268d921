use Rattle.std.proofs.Common.{[], ◌∷◌, None, arith, refl}
use Rattle.sap_other_nodes.specs.OtherLockExamples.{over_one, lower_ended, both_ended, two_terms, upper_term, ended_above, held_inside, in_branch, twice_over, other_branch, no_fork}
use Rattle.sap_other_nodes.proofs.LocksOver.{not_told, over_told, told_so}
use Rattle.sap_other_nodes.proofs.lock_laws.locks_over_by_hand.Goals as goal

pub returns-clause-one : goal.returns-clause-one
returns-clause-one c = told_so over_one (record { by_path = c.lock_places_are_by_path.ensures.ways over_one; listed = c.lock_places_are_by_path.ensures.ways_listed over_one }) (1 ∷ []) 0 refl

pub returns-clause-lower : goal.returns-clause-lower
returns-clause-lower c = told_so lower_ended (record { by_path = c.lock_places_are_by_path.ensures.ways lower_ended; listed = c.lock_places_are_by_path.ensures.ways_listed lower_ended }) (1 ∷ 1 ∷ []) 1 refl

pub returns-clause-upper : goal.returns-clause-upper
returns-clause-upper c = told_so both_ended (record { by_path = c.lock_places_are_by_path.ensures.ways both_ended; listed = c.lock_places_are_by_path.ensures.ways_listed both_ended }) (1 ∷ 1 ∷ []) 0 refl

pub returns-clause-first_lock : goal.returns-clause-first_lock
returns-clause-first_lock c = told_so two_terms (record { by_path = c.lock_places_are_by_path.ensures.ways two_terms; listed = c.lock_places_are_by_path.ensures.ways_listed two_terms }) (1 ∷ 1 ∷ []) 0 refl

pub returns-clause-ended : goal.returns-clause-ended
returns-clause-ended c = told_so upper_term (record { by_path = c.lock_places_are_by_path.ensures.ways upper_term; listed = c.lock_places_are_by_path.ensures.ways_listed upper_term }) (1 ∷ 1 ∷ []) 0 refl

pub returns-clause-open : goal.returns-clause-open
returns-clause-open c = told_so ended_above (record { by_path = c.lock_places_are_by_path.ensures.ways ended_above; listed = c.lock_places_are_by_path.ensures.ways_listed ended_above }) (1 ∷ 1 ∷ 1 ∷ []) 2 refl

pub returns-clause-by_depth : goal.returns-clause-by_depth
returns-clause-by_depth c = told_so in_branch (record { by_path = c.lock_places_are_by_path.ensures.ways in_branch; listed = c.lock_places_are_by_path.ensures.ways_listed in_branch }) (2 ∷ 1 ∷ []) 1 refl

pub returns-clause-outer_fork : goal.returns-clause-outer_fork
returns-clause-outer_fork c = told_so twice_over (record { by_path = c.lock_places_are_by_path.ensures.ways twice_over; listed = c.lock_places_are_by_path.ensures.ways_listed twice_over }) (1 ∷ []) 0 refl

pub returns-clause-inner_fork : goal.returns-clause-inner_fork
returns-clause-inner_fork c = told_so twice_over (record { by_path = c.lock_places_are_by_path.ensures.ways twice_over; listed = c.lock_places_are_by_path.ensures.ways_listed twice_over }) (1 ∷ 1 ∷ []) 0 refl

pub returns-clause-not_upper : goal.returns-clause-not_upper
returns-clause-not_upper c = not_told lower_ended (record { by_path = c.lock_places_are_by_path.ensures.ways lower_ended; listed = c.lock_places_are_by_path.ensures.ways_listed lower_ended }) (1 ∷ 1 ∷ []) 0 1 refl (λ h. omega (arith, h))

pub returns-clause-not_lower : goal.returns-clause-not_lower
returns-clause-not_lower c = not_told both_ended (record { by_path = c.lock_places_are_by_path.ensures.ways both_ended; listed = c.lock_places_are_by_path.ensures.ways_listed both_ended }) (1 ∷ 1 ∷ []) 1 0 refl (λ h. omega (arith, h))

pub returns-clause-not_first_unlock : goal.returns-clause-not_first_unlock
returns-clause-not_first_unlock c = not_told two_terms (record { by_path = c.lock_places_are_by_path.ensures.ways two_terms; listed = c.lock_places_are_by_path.ensures.ways_listed two_terms }) (1 ∷ 1 ∷ []) 1 0 refl (λ h. omega (arith, h))

pub returns-clause-not_open : goal.returns-clause-not_open
returns-clause-not_open c = not_told upper_term (record { by_path = c.lock_places_are_by_path.ensures.ways upper_term; listed = c.lock_places_are_by_path.ensures.ways_listed upper_term }) (1 ∷ 1 ∷ []) 1 0 refl (λ h. omega (arith, h))

pub returns-clause-not_ended_above : goal.returns-clause-not_ended_above
returns-clause-not_ended_above c = not_told ended_above (record { by_path = c.lock_places_are_by_path.ensures.ways ended_above; listed = c.lock_places_are_by_path.ensures.ways_listed ended_above }) (1 ∷ 1 ∷ 1 ∷ []) 0 2 refl (λ h. omega (arith, h))

pub returns-clause-not_beside : goal.returns-clause-not_beside
returns-clause-not_beside c = not_told in_branch (record { by_path = c.lock_places_are_by_path.ensures.ways in_branch; listed = c.lock_places_are_by_path.ensures.ways_listed in_branch }) (2 ∷ 1 ∷ []) 0 1 refl (λ h. omega (arith, h))

pub returns-clause-not_inside : goal.returns-clause-not_inside
returns-clause-not_inside c = over_told held_inside (record { by_path = c.lock_places_are_by_path.ensures.ways held_inside; listed = c.lock_places_are_by_path.ensures.ways_listed held_inside }) (1 ∷ []) None refl

pub returns-clause-not_without_fork : goal.returns-clause-not_without_fork
returns-clause-not_without_fork c = over_told no_fork (record { by_path = c.lock_places_are_by_path.ensures.ways no_fork; listed = c.lock_places_are_by_path.ensures.ways_listed no_fork }) (1 ∷ []) None refl

pub returns-clause-nowhere : goal.returns-clause-nowhere
returns-clause-nowhere c = over_told over_one (record { by_path = c.lock_places_are_by_path.ensures.ways over_one; listed = c.lock_places_are_by_path.ensures.ways_listed over_one }) (2 ∷ []) None refl

pub returns-clause-not_in_other_branch : goal.returns-clause-not_in_other_branch
returns-clause-not_in_other_branch c = over_told other_branch (record { by_path = c.lock_places_are_by_path.ensures.ways other_branch; listed = c.lock_places_are_by_path.ensures.ways_listed other_branch }) (1 ∷ 2 ∷ []) None refl
