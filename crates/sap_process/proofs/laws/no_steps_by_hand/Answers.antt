use Rattle.sap_process.proofs.NoSteps.{no_lock, no_find, no_miss, no_then, no_else, no_name, no_second, no_meeting, no_secret, no_public, no_private}
use Rattle.sap_process.proofs.laws.no_steps_by_hand.Goals as goal

pub returns-clause-locks : goal.returns-clause-locks
returns-clause-locks c = no_lock c.normal_forms_are_unique.ensures

pub returns-clause-finds : goal.returns-clause-finds
returns-clause-finds c = no_find c.normal_forms_are_unique.ensures

pub returns-clause-misses : goal.returns-clause-misses
returns-clause-misses c = no_miss c.normal_forms_are_unique.ensures

pub returns-clause-agrees : goal.returns-clause-agrees
returns-clause-agrees c = no_then

pub returns-clause-differs : goal.returns-clause-differs
returns-clause-differs c = no_else

pub returns-clause-makes_name : goal.returns-clause-makes_name
returns-clause-makes_name c = no_name

pub returns-clause-embeds : goal.returns-clause-embeds
returns-clause-embeds c = no_second

pub returns-clause-meets : goal.returns-clause-meets
returns-clause-meets c = no_meeting

pub returns-clause-inputs : goal.returns-clause-inputs
returns-clause-inputs c = no_secret

pub returns-clause-inputs_fresh : goal.returns-clause-inputs_fresh
returns-clause-inputs_fresh c = no_public

pub returns-clause-embeds_public : goal.returns-clause-embeds_public
returns-clause-embeds_public c = no_private
