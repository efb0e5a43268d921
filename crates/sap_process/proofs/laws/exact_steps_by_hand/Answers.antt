use Rattle.sap_process.proofs.ExactSteps.{sent_is, sent_on, sent_to_nobody, given_is, given_on, shown_is, inserted_is, deleted_is, locked_is, unlocked_is, rule_is, own_is, known_is}
use Rattle.sap_process.proofs.NoSteps.{meeting}
use Rattle.sap_process.proofs.laws.exact_steps_by_hand.Goals as goal

pub returns-clause-outputs : goal.returns-clause-outputs
returns-clause-outputs c = sent_is c.normal_forms_are_unique.ensures

pub returns-clause-outputs_on : goal.returns-clause-outputs_on
returns-clause-outputs_on c = sent_on c.normal_forms_are_unique.ensures

pub returns-clause-outputs_on_secret : goal.returns-clause-outputs_on_secret
returns-clause-outputs_on_secret c = sent_to_nobody c.normal_forms_are_unique.ensures

pub returns-clause-inputs : goal.returns-clause-inputs
returns-clause-inputs c = given_is c.normal_forms_are_unique.ensures

pub returns-clause-inputs_on : goal.returns-clause-inputs_on
returns-clause-inputs_on c = given_on c.normal_forms_are_unique.ensures

pub returns-clause-meets : goal.returns-clause-meets
returns-clause-meets c = meeting

pub returns-clause-shows : goal.returns-clause-shows
returns-clause-shows c = shown_is c.normal_forms_are_unique.ensures

pub returns-clause-inserts : goal.returns-clause-inserts
returns-clause-inserts c = inserted_is c.normal_forms_are_unique.ensures

pub returns-clause-deletes : goal.returns-clause-deletes
returns-clause-deletes c = deleted_is c.normal_forms_are_unique.ensures

pub returns-clause-locks : goal.returns-clause-locks
returns-clause-locks c = locked_is c.normal_forms_are_unique.ensures

pub returns-clause-unlocks : goal.returns-clause-unlocks
returns-clause-unlocks c = unlocked_is c.normal_forms_are_unique.ensures

pub returns-clause-embeds : goal.returns-clause-embeds
returns-clause-embeds c = rule_is c.normal_forms_are_unique.ensures

pub returns-clause-adversary_makes : goal.returns-clause-adversary_makes
returns-clause-adversary_makes c = own_is c.normal_forms_are_unique.ensures

pub returns-clause-knows : goal.returns-clause-knows
returns-clause-knows c = known_is c.normal_forms_are_unique.ensures
