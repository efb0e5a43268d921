use Rattle.sap_runs.specs.Limits.{HasFewNodes}
use Rattle.sap_attacks.proofs.RunsOnce.{lines_have_one_end, runs_have_one_end, lines_are_not_refused, refusals_are_one, legal_runs_are_not_refused, first_refusals_are_one}
use Rattle.sap_attacks.proofs.laws.one_short_rule_answer.Goals as goal

pub returns-clause-lines : goal.returns-clause-lines
returns-clause-lines c = lines_have_one_end c.normal_forms_are_unique.ensures HasFewNodes

pub returns-clause-apart : goal.returns-clause-apart
returns-clause-apart c = lines_are_not_refused c.normal_forms_are_unique.ensures HasFewNodes

pub returns-clause-cause : goal.returns-clause-cause
returns-clause-cause c = refusals_are_one c.normal_forms_are_unique.ensures HasFewNodes

pub returns-clause-runs : goal.returns-clause-runs
returns-clause-runs c = runs_have_one_end c.normal_forms_are_unique.ensures HasFewNodes

pub returns-clause-legal : goal.returns-clause-legal
returns-clause-legal c = legal_runs_are_not_refused c.normal_forms_are_unique.ensures

pub returns-clause-first : goal.returns-clause-first
returns-clause-first c = first_refusals_are_one c.normal_forms_are_unique.ensures
