use Rattle.sap_macro.proofs.AlikeByHand.{alike, all_parts, any_key, ground, looks_one, never_shows_new, no_ground, no_ground_parts, no_other_part, other, shows_new}
use Rattle.sap_macro.proofs.by_hand.alike_configurations_by_hand.Goals as goal

pub returns-clause-alike : goal.returns-clause-alike
returns-clause-alike c = alike

pub returns-clause-other : goal.returns-clause-other
returns-clause-other c = other

pub returns-clause-ground : goal.returns-clause-ground
returns-clause-ground c = ground

pub returns-clause-any_key : goal.returns-clause-any_key
returns-clause-any_key c = any_key

pub returns-clause-no_ground : goal.returns-clause-no_ground
returns-clause-no_ground c = no_ground

pub returns-clause-all_parts : goal.returns-clause-all_parts
returns-clause-all_parts c = all_parts

pub returns-clause-no_other_part : goal.returns-clause-no_other_part
returns-clause-no_other_part c = no_other_part

pub returns-clause-no_ground_parts : goal.returns-clause-no_ground_parts
returns-clause-no_ground_parts c = no_ground_parts

pub returns-clause-looks_alike : goal.returns-clause-looks_alike
returns-clause-looks_alike c = looks_one

pub returns-clause-shows_new : goal.returns-clause-shows_new
returns-clause-shows_new c = shows_new c.leaves_are_normal.ensures

pub returns-clause-never_shows_new : goal.returns-clause-never_shows_new
returns-clause-never_shows_new c = never_shows_new c.leaves_are_normal.ensures c.normal_forms_are_unique.ensures
