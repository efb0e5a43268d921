use Rattle.sap_draft.proofs.ByHand.{action_is, dangling_is, lookup_is, parallel_is, parted_is, rule_is, use_is, empty_use_isnt, comma_use_isnt, parted_use_isnt}
use Rattle.sap_draft.proofs.laws.processes_by_hand.Goals as goal

pub returns-clause-dangling : goal.returns-clause-dangling
returns-clause-dangling c = dangling_is

pub returns-clause-parted : goal.returns-clause-parted
returns-clause-parted c = parted_is

pub returns-clause-parallel : goal.returns-clause-parallel
returns-clause-parallel c = parallel_is

pub returns-clause-actions : goal.returns-clause-actions
returns-clause-actions c = action_is

pub returns-clause-rule : goal.returns-clause-rule
returns-clause-rule c = rule_is

pub returns-clause-lookup : goal.returns-clause-lookup
returns-clause-lookup c = lookup_is

pub returns-clause-uses : goal.returns-clause-uses
returns-clause-uses c = use_is

pub returns-clause-no_arguments : goal.returns-clause-no_arguments
returns-clause-no_arguments c = empty_use_isnt c.term_laws.ensures.read c.term_laws.ensures.spelled

pub returns-clause-last_comma : goal.returns-clause-last_comma
returns-clause-last_comma c = comma_use_isnt c.term_laws.ensures.read c.term_laws.ensures.spelled

pub returns-clause-name_apart : goal.returns-clause-name_apart
returns-clause-name_apart c = parted_use_isnt c.term_laws.ensures.read c.term_laws.ensures.spelled
