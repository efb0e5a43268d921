use Rattle.sap_process.proofs.RuleTraces.{never_used, used_once, shown_once, lasting_shown}
use Rattle.sap_process.proofs.laws.rule_traces_by_hand.Goals as goal

pub returns-clause-never_added : goal.returns-clause-never_added
returns-clause-never_added c = never_used c.normal_forms_are_unique.ensures

pub returns-clause-once : goal.returns-clause-once
returns-clause-once c = shown_once

pub returns-clause-not_twice : goal.returns-clause-not_twice
returns-clause-not_twice c = used_once c.normal_forms_are_unique.ensures

pub returns-clause-lasting : goal.returns-clause-lasting
returns-clause-lasting c = lasting_shown
